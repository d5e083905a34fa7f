use Rattle.warning_book.specs.SoundLaws.{sound-stopped}
use Rattle.warning_book.proofs.book.Book.stop.Goals as goal

pub invariant_of-self : goal.invariant_of-self
invariant_of-self c = rw c.stop.ensures (sound-stopped _ _ _ c.self.invariant)
