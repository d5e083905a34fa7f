use Rattle.std.proofs.Common.{◌≡◌, false, rules}
use Rattle.warning_book.specs.SoundLaws.{sound-widened}
use Rattle.warning_book.specs.Book.{names, is_full, is_so}
use Rattle.warning_book.proofs.book.Book.widen.Goals as goal

pub invariant_of-self-2 : goal.invariant_of-self-2
invariant_of-self-2 c =
    let new : is_so c.args.number (names c.args.a.now) c.self.inside.warnings.items ≡ false = search rules in
    let room : is_so c.args.number is_full c.self.inside.warnings.items ≡ false = search rules in
    rw c.in_ok-widen.ensures.widened (sound-widened c.args.number c.args.a.now _ _ new room c.self.invariant)
