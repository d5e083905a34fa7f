use Rattle.std.proofs.Common.{◌≡◌, ◌≤◌, ◌+◌, Some, None, true, sym, ap, subst, rules}
use Rattle.std.specs.List.{list_any}
use Rattle.std.specs.Option.{is_some}
use Rattle.common.specs.Checks.{first_refusal}
use Rattle.warning_book.specs.Book.{has_serial}
use Rattle.centre_answers.specs.Reused.{IsFirst, key_checks, most_read, reused_of}
use Rattle.centre_answers.proofs.events.reusing.check_warning.Goals as goal

pub returns-in_default-clause-first : goal.returns-in_default-clause-first
returns-in_default-clause-first c =
    let none : reused_of c.args.w.now ≡ None = search rules in
    λ settings past legal registered linked tables found. ap (λ o. first_refusal (key_checks past c.args.w.now.message_id o)) none

pub returns-clause-first : goal.returns-clause-first
returns-clause-first c =
    let some : reused_of c.args.w.now ≡ Some c.in-Some.serial = search rules in
    let there : list_any (has_serial c.in-Some.serial) c.args.w.now.versions ≡ true = search rules in
    λ settings past legal registered linked tables found.
    subst (λ o. IsFirst (key_checks past c.args.w.now.message_id o) c.check_key.result) (sym some) (c.check_key.ensures.first settings past legal registered linked tables found there)

pub returns-clause-meter : goal.returns-clause-meter
returns-clause-meter c =
    let some : reused_of c.args.w.now ≡ Some c.in-Some.serial = search rules in
    λ settings past r legal knows.
    subst (λ o. c.check_key.new.tables.lines.meter ≤ c.args.tables.now.lines.meter + most_read past (is_some o)) (sym some) (c.check_key.ensures.meter settings past r legal knows)
