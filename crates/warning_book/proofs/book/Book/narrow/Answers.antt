use Rattle.std.proofs.Common.{◌≡◌, false, rules}
use Rattle.warning_book.specs.SoundLaws.{sound-narrowed}
use Rattle.warning_book.specs.Book.{has_one_area, is_so}
use Rattle.warning_book.proofs.book.Book.narrow.Goals as goal

pub invariant_of-self : goal.invariant_of-self
invariant_of-self c =
    let more : is_so c.args.number has_one_area c.self.inside.warnings.items ≡ false = search rules in
    rw c.narrow.ensures (sound-narrowed c.args.number c.args.a.now _ _ more c.self.invariant)
