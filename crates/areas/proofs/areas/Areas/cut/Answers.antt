use Rattle.areas.proofs.IndexLemmas.{index-without_selector}
use Rattle.areas.proofs.SoundLemmas.{sound-without_selector}
use Rattle.areas.proofs.areas.Areas.cut.Goals as goal

pub invariant_of-self : goal.invariant_of-self
invariant_of-self c =
    rw c.cut.ensures (record {
      sound = sound-without_selector _ _ _ c.self.invariant.sound;
      index = index-without_selector _ _ _ _ _ c.self.invariant.index c.remove.ensures;
    })
