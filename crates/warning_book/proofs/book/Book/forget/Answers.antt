use Rattle.warning_book.specs.SoundLaws.{sound-without}
use Rattle.warning_book.proofs.book.Book.forget.Goals as goal

pub invariant_of-self : goal.invariant_of-self
invariant_of-self c = rw c.forget.ensures (sound-without _ _ _ c.self.invariant)
