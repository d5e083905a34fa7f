use Rattle.std.proofs.Common.{◌≡◌, rules}
use Rattle.std.proofs.lemmas.Fn.{filter_same}
use Rattle.link_rules.specs.QueryPaces.{among}
use Rattle.link_rules.specs.declared.version_due.VersionDue.{VersionDue}
use Rattle.link_rules.proofs.versions_due.keep_only.Goals as goal

pub returns : goal.returns
returns c = filter_same _ (λ (d : VersionDue). among c.args.versions.now d.version) _ (λ d b d' k. search rules) _ _ c.retain.ensures.filtered
