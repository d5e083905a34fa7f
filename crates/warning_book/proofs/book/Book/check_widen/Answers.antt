use Rattle.std.proofs.Common.{◌≡◌, ◌∙◌, Some, None, ap, sym, refl, false, rules}
use Rattle.std.specs.Prelude.{find}
use Rattle.common.specs.Checks.{first_refusal}
use Rattle.warning_book.specs.Book.{State, has_number, is_there, warning_of}
use Rattle.warning_book.specs.Checks.{widen_checks}
use Rattle.warning_book.proofs.CheckLemmas.{is_absent, widen_found}
use Rattle.warning_book.proofs.book.Book.check_widen.Goals as goal

pub returns-in-Some-clause-accepted : goal.returns-in-Some-clause-accepted
returns-in-Some-clause-accepted c =
    let found : find (has_number c.args.number) c.self.inside.warnings.items ≡ Some c.in-Some.warning.now = search rules in
    let same = ap (λ (st : State). first_refusal (widen_checks st c.args.number c.args.a.now)) (sym c.self.view_is) ∙ widen_found (record { issued = c.self.inside.issued; warnings = c.self.inside.warnings.items }) c.args.number c.args.a.now c.in-Some.warning.now c.self.invariant.ordered found in
    rw same c.check_widen.ensures.accepted

pub returns-in-Some-clause-refused : goal.returns-in-Some-clause-refused
returns-in-Some-clause-refused c =
    let found : find (has_number c.args.number) c.self.inside.warnings.items ≡ Some c.in-Some.warning.now = search rules in
    let same = ap (λ (st : State). first_refusal (widen_checks st c.args.number c.args.a.now)) (sym c.self.view_is) ∙ widen_found (record { issued = c.self.inside.issued; warnings = c.self.inside.warnings.items }) c.args.number c.args.a.now c.in-Some.warning.now c.self.invariant.ordered found in
    rw same c.check_widen.ensures.refused

pub returns-in-None-clause-refused : goal.returns-in-None-clause-refused
returns-in-None-clause-refused c =
    let none : find (has_number c.args.number) c.self.inside.warnings.items ≡ None = search rules in
    let absent : is_there c.args.self.now c.args.number ≡ false = is_absent c.args.self.now c.args.number (ap (λ (st : State). warning_of st c.args.number) (sym c.self.view_is) ∙ none) in
    rw absent refl
