use Rattle.std.proofs.Common.{◌<◌, ◌∙◌, ap, sym, length, rules}
use Rattle.warning_book.specs.SerialLaws.{serial_is_there, new_code_free}
use Rattle.warning_book.specs.SoundLaws.{IsNew, sound-issue}
use Rattle.warning_book.specs.Book.{State, new_serial}
use Rattle.warning_book.proofs.book.Book.issue.Goals as goal

pub returns-in_default-clause-refused : goal.returns-in_default-clause-refused
returns-in_default-clause-refused c =
    let few : length c.self.inside.warnings.items < 256 = search rules in
    serial_is_there c.self.inside.issued c.self.inside.warnings.items c.args.notice.now few (ap (λ (st : State). new_serial st c.args.notice.now) c.self.view_is ∙ sym c.in_ok-serial.ensures ∙ c.in_default.is)

pub invariant_of-self-2 : goal.invariant_of-self-2
invariant_of-self-2 c =
    let free = new_code_free c.self.inside.issued c.self.inside.warnings.items c.args.notice.now c.in-Some.serial (ap (λ (st : State). new_serial st c.args.notice.now) c.self.view_is ∙ sym c.in_ok-serial.ensures ∙ c.in-Some.is) in
    let new : IsNew c.self.inside.warnings.items c.args.notice.now c.args.areas.now c.in-Some.serial = record {
      some = search rules;
      once = search rules;
      few = search rules;
      pages = search rules;
      period = search rules;
      room = search rules;
      free = free;
    } in
    rw (c.in_ok-issue.ensures.issued, c.new-number.ensures) (sound-issue c.self.inside.issued c.self.inside.warnings.items c.args.notice.now c.args.areas.now c.in-Some.serial new c.self.invariant)
