use Rattle.std.proofs.Common.{◌≡◌, ◌≤◌, ◌+◌, Some, None, sym, subst, rules}
use Rattle.warning_book.specs.Book.{warning_of}
use Rattle.centre_past.proofs.WarningLemmas.{found_itself}
use Rattle.centre_answers.specs.Reused.{most_read}
use Rattle.centre_answers.proofs.ReuseLemmas.{first_found, first_missing, wraps_found}
use Rattle.centre_answers.proofs.events.reusing.check_reused.Goals as goal

pub returns-in_default-clause-first : goal.returns-in_default-clause-first
returns-in_default-clause-first c =
    let missing : warning_of c.args.book.now c.args.number ≡ None = search rules in
    λ settings past legal registered booked linked tables. first_missing past c.args.book.now c.args.number booked missing

pub returns-clause-first : goal.returns-clause-first
returns-clause-first c =
    let found : warning_of c.args.book.now c.args.number ≡ Some c.in-Some.warning.now = search rules in
    λ settings past legal registered booked linked tables.
    first_found past c.args.book.now c.args.number c.in-Some.warning.now c.check_warning.result booked c.tell_soundness.ensures.ordered found
    (c.check_warning.ensures.first settings past legal registered linked tables (found_itself past c.args.book.now c.args.number c.in-Some.warning.now booked found))

pub returns-clause-meter : goal.returns-clause-meter
returns-clause-meter c =
    let found : warning_of c.args.book.now c.args.number ≡ Some c.in-Some.warning.now = search rules in
    λ settings past r legal booked knows.
    subst (λ t. c.check_warning.new.tables.lines.meter ≤ c.args.tables.now.lines.meter + most_read past t) (sym (wraps_found past c.args.book.now c.args.number c.in-Some.warning.now booked c.tell_soundness.ensures.ordered found))
    (c.check_warning.ensures.meter settings past r legal knows)
