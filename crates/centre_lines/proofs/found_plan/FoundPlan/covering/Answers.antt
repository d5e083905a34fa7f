use Rattle.std.proofs.Common.{◌≡◌, ◌∙◌, List, ℕ, Some, filter, ap, sym, subst, true}
use Rattle.areas.specs.Areas.{covers}
use Rattle.coverage_board.specs.AreaSets.{names_at}
use Rattle.coverage_plan.specs.Plan.{State}
use Rattle.warning_book.specs.Book.{warning_of}
use Rattle.warning_book.specs.Sound.{has_areas}
use Rattle.centre_lines.specs.Found.{IsOf}
use Rattle.centre_lines.proofs.CoverageLemmas.{areas_in_book, digits_cover, digits_in}
use Rattle.centre_lines.proofs.found_plan.FoundPlan.covering.Goals as goal

-- what was found is what the warning has

pub of-requires : goal.of-requires
of-requires c =
    let l = c.self.inside.plan.now.areas in
    let there : Some c.args.w.now ≡ warning_of c.self.inside.plan.now.book c.args.n = c.requires ∙ ap (λ (p : State). warning_of p.book c.args.n) (sym c.self.view_is) in
    let good : has_areas c.args.w.now ≡ true = areas_in_book c.self.inside.plan.now.book c.args.n c.args.w.now there (rw (c.book.ensures) at c.tell_soundness.ensures.areas) in
    let is : IsOf l (Some c.args.w.now) c.index_mut.result.now = subst (IsOf l (Some c.args.w.now)) (sym c.index_mut.ensures.value) (c.in_ok-place.ensures.place c.index_mut.result.now) in
    rw (c.areas.ensures) (digits_in l c.args.w.now c.index_mut.result.now c.args.c c.digits-digits.result.bits good is c.digits-digits.ensures.digits)

pub returns-clause-covering : goal.returns-clause-covering
returns-clause-covering c =
    let l = c.self.inside.plan.now.areas in
    let is : IsOf l (Some c.args.w.now) c.index_mut.result.now = subst (IsOf l (Some c.args.w.now)) (sym c.index_mut.ensures.value) (c.in_ok-place.ensures.place c.index_mut.result.now) in
    c.of.ensures
    ∙ ap (names_at c.digits-digits.result.bits) c.areas.ensures
    ∙ digits_cover l c.args.w.now c.index_mut.result.now c.args.c c.digits-digits.result.bits is c.digits-digits.ensures.digits
    ∙ ap (λ (p : State). filter {X = List ℕ} (λ a. covers p.areas a c.args.c) c.args.w.now.areas) c.self.view_is
