use Rattle.std.proofs.Common.{◌∙◌, ap}
use Rattle.common.specs.Order.{is_ascending}
use Rattle.centre_past.specs.Links.{link_lt}
use Rattle.centre_past.proofs.LinkPlaceLemmas.{taken_ascends}
use Rattle.centre_past.proofs.kept_links.KeptLinks.take_out.Goals as goal

pub invariant_of-self : goal.invariant_of-self
invariant_of-self c = ap (is_ascending link_lt) c.take_link.ensures ∙ taken_ascends c.args.b c.self.inside.links.items c.self.invariant
