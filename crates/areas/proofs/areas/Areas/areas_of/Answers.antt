use Rattle.std.proofs.Common.{◌∙◌}
use Rattle.areas.proofs.IndexLemmas.{areas_by_index}
use Rattle.areas.proofs.areas.Areas.areas_of.Goals as goal

pub returns : goal.returns
returns c =
    rw (← c.self.view_is) (c.from_vec.ensures ∙ areas_by_index c.args.c c.self.inside.list.items c.self.inside.holders c.in_ok-names.names.items c.self.invariant.sound.ascending c.self.invariant.index c.in_ok-names.ensures.found c.in_ok-names.ensures.order)
