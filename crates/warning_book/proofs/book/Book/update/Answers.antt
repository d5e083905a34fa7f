use Rattle.std.proofs.Common.{◌≡◌, true, false, rules}
use Rattle.warning_book.specs.SoundLaws.{sound-updated}
use Rattle.warning_book.specs.VersionLaws.{none_empty}
use Rattle.warning_book.specs.Book.{is_of_other_kind, is_so}
use Rattle.warning_book.specs.Content.{have_pages, has_period}
use Rattle.warning_book.proofs.book.Book.update.Goals as goal

pub invariant_of-self-2 : goal.invariant_of-self-2
invariant_of-self-2 c =
    let pages : have_pages c.args.content.now ≡ true = search rules in
    let period : has_period c.args.content.now ≡ true = search rules in
    let same : is_so c.args.number (is_of_other_kind c.args.content.now) c.self.inside.warnings.items ≡ false = search rules in
    rw c.in_ok-serial.ensures.updated (sound-updated c.args.number c.args.content.now _ _ pages period same c.self.invariant)

pub update-requires-clause-some : goal.update-requires-clause-some
update-requires-clause-some c = none_empty c.args.number c.self.inside.warnings.items c.self.invariant.versions
