use Rattle.std.proofs.Common.{◌≡◌, not, rules}
use Rattle.std.proofs.lemmas.Fn.{filter_same}
use Rattle.link_rules.specs.QueryPaces.{is_of, without}
use Rattle.link_rules.specs.declared.version_due.VersionDue.{VersionDue}
use Rattle.link_rules.proofs.versions_due.take_out.Goals as goal

pub returns-clause-left : goal.returns-clause-left
returns-clause-left c = filter_same _ (λ d. not (is_of c.args.version d)) _ (λ d b d' k. search rules) _ _ c.retain.ensures.filtered
