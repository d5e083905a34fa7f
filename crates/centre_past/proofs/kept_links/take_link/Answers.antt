use Rattle.std.proofs.Common.{not, rules}
use Rattle.std.proofs.lemmas.Fn.{filter_same}
use Rattle.centre_past.specs.Links.{is_link_of}
use Rattle.centre_past.proofs.kept_links.take_link.Goals as goal

pub returns : goal.returns
returns c = filter_same _ (λ l. not (is_link_of c.args.b l)) _ (λ l b l' k. search rules) _ _ c.retain.ensures.filtered
