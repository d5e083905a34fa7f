use Rattle.std.proofs.Common.{◌∙◌}
use Rattle.mirror.specs.Order.{place_cmp}
use Rattle.mirror.proofs.NumberLemmas.{number_cmp}
use Rattle.mirror.proofs.place.PlaceOrd.cmp.Goals as goal

pub returns : goal.returns
returns c =
    c.cmp.ensures ∙ number_cmp c.self.inside.number c.other.inside.number ∙ (λ i. place_cmp (c.self.view_is i) (c.other.view_is i))
