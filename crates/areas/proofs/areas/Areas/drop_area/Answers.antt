use Rattle.areas.proofs.IndexLemmas.{index-without_area}
use Rattle.areas.proofs.SoundLemmas.{sound-without_area}
use Rattle.areas.proofs.areas.Areas.drop_area.Goals as goal

pub invariant_of-self : goal.invariant_of-self
invariant_of-self c =
    let list = c.self.inside.list.items in
    rw c.drop_area.ensures (record {
      sound = sound-without_area _ _ c.self.invariant.sound;
      index = index-without_area c.args.a.now list _ _ c.self.invariant.index (rw (c.selectors_of-selectors.ensures, c.as_slice.ensures.value) at c.remove_all.ensures);
    })
