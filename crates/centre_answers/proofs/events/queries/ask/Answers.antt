use Rattle.std.proofs.Common.{◌≡◌, ◌∙◌, Some, true, false, sym, ap, subst, eqb-true, rules}
use Rattle.std.specs.Option.{is_some}
use Rattle.warning_book.specs.Book.{warning_of}
use Rattle.centre_past.specs.Links.{flight_in}
use Rattle.centre_events.specs.Kept.{IsRegisterOf}
use Rattle.centre_events.specs.Warnings.{book_of}
use Rattle.cell_register.specs.Register.{has_bsc}
use Rattle.centre_past.proofs.AskLemmas.{ask_given}
use Rattle.centre_past.proofs.FoundLemmas.{found_number}
use Rattle.centre_answers.proofs.events.queries.ask.Goals as goal

pub returns-clause-verdict : goal.returns-clause-verdict
returns-clause-verdict c =
    let registered : has_bsc c.args.kept.now.plan.register c.args.b ≡ true = search rules in
    let there : warning_of c.args.kept.now.plan.book c.args.number ≡ Some c.in-Some.warning.now = search rules in
    let none : is_some (flight_in c.args.kept.now.links c.args.b) ≡ false = search rules in
    λ settings past legal kept.
    let found : warning_of (book_of past) c.args.number ≡ Some c.in-Some.warning.now = sym (ap (λ st. warning_of st c.args.number) kept.booked) ∙ there in
    ask_given past c.args.b c.args.generation c.args.number c.args.after c.in-Some.warning.now c.warning_query.result
    (sym (kept.registered.bscs c.args.b) ∙ registered)
    found
    (c.in_ok-check_link.ensures.free past (subst (IsRegisterOf past) (sym c.register-2.ensures) kept.registered) kept.linked)
    (sym (ap is_some (kept.linked.flights c.args.b)) ∙ none)
    (c.warning_query.ensures.verdict settings past legal kept.tables (subst (λ n. warning_of (book_of past) n ≡ Some c.in-Some.warning.now) (sym (eqb-true c.in-Some.warning.now.number c.args.number (found_number c.args.number (book_of past).warnings c.in-Some.warning.now found))) found))
