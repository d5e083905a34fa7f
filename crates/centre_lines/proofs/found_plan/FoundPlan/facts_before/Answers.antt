use Rattle.std.proofs.Common.{◌≡◌, ◌∙◌, List, ℕ, Some, filter, ap, sym, subst, true}
use Rattle.areas.specs.Areas.{covers}
use Rattle.coverage_board.specs.AreaSets.{AreDigits, names_at}
use Rattle.coverage_plan.specs.Plan.{State}
use Rattle.warning_book.specs.Book.{warning_of}
use Rattle.warning_book.specs.Sound.{has_areas}
use Rattle.warning_book.specs.declared.warning.Warning.{Warning}
use Rattle.centre_lines.specs.Found.{IsOf, WarningHead, facts_before}
use Rattle.centre_lines.proofs.CoverageLemmas.{areas_in_book, digits_cover, digits_in, found_read}
use Rattle.centre_lines.proofs.CoveredLemmas.{before_is}
use Rattle.centre_lines.proofs.found_plan.FoundPlan.facts_before.Goals as goal

-- the warning stands in the book of the plan that the call was given
there : {p q r : State} {w : Warning} (n : ℕ) → p ≡ q → q ≡ r → Some w ≡ warning_of r.book n → Some w ≡ warning_of p.book n
there n view same is = is ∙ ap (λ (s : State). warning_of s.book n) (sym (view ∙ same))

pub invariant_of-self-in_err-before : goal.invariant_of-self-in_err-before
invariant_of-self-in_err-before c =
    found_read c.self.inside.plan.now.areas c.self.inside.plan.now.book c.args.n c.args.w.now (there c.args.n c.self.view_is c.is_here-here.ensures.same c.requires) c.place_in.new.found.items c.in_ok-place.place c.index_mut-found.result.now c.digits-digits.new.self c.before-2.new.self c.in_ok-place.ensures.found c.index_mut-found.ensures.value c.in_ok-place.ensures.number c.in_ok-place.ensures.place c.digits-digits.ensures.same c.before-2.ensures.warning c.before-2.ensures.selectors c.before-2.ensures.kept

pub of-requires : goal.of-requires
of-requires c =
    let l = c.self.inside.plan.now.areas in
    let good : has_areas c.args.w.now ≡ true = areas_in_book c.self.inside.plan.now.book c.args.n c.args.w.now (there c.args.n c.self.view_is c.is_here-here.ensures.same c.requires) (rw (c.book.ensures) at c.tell_soundness.ensures.areas) in
    let is : IsOf l (Some c.args.w.now) c.index_mut-found.result.now = subst (IsOf l (Some c.args.w.now)) (sym c.index_mut-found.ensures.value) (c.in_ok-place.ensures.place c.index_mut-found.result.now) in
    subst (λ (h : WarningHead). AreDigits c.digits-digits.result.bits h.areas) (sym c.in_ok-before.ensures.before)
    (digits_in l c.args.w.now c.index_mut-found.result.now c.args.there.now.spot.cell c.digits-digits.result.bits good is c.digits-digits.ensures.digits)

pub invariant_of-self-2 : goal.invariant_of-self-2
invariant_of-self-2 c =
    found_read c.self.inside.plan.now.areas c.self.inside.plan.now.book c.args.n c.args.w.now (there c.args.n c.self.view_is c.is_here-here.ensures.same c.requires) c.place_in.new.found.items c.in_ok-place.place c.index_mut-found.result.now c.digits-digits.new.self c.before-2.new.self c.in_ok-place.ensures.found c.index_mut-found.ensures.value c.in_ok-place.ensures.number c.in_ok-place.ensures.place c.digits-digits.ensures.same c.before-2.ensures.warning c.before-2.ensures.selectors c.before-2.ensures.kept

pub returns-clause-facts : goal.returns-clause-facts
returns-clause-facts c =
    let l = c.self.inside.plan.now.areas in
    let bits = c.digits-digits.result.bits in
    let is : IsOf l (Some c.args.w.now) c.index_mut-found.result.now = subst (IsOf l (Some c.args.w.now)) (sym c.index_mut-found.ensures.value) (c.in_ok-place.ensures.place c.index_mut-found.result.now) in
    let names : names_at bits c.args.w.now.areas ≡ filter {X = List ℕ} (λ a. covers c.args.self.now.areas a c.args.there.now.spot.cell) c.args.w.now.areas =
    digits_cover l c.args.w.now c.index_mut-found.result.now c.args.there.now.spot.cell bits is c.digits-digits.ensures.digits
    ∙ ap (λ (p : State). filter {X = List ℕ} (λ a. covers p.areas a c.args.there.now.spot.cell) c.args.w.now.areas) (c.self.view_is ∙ c.is_here-here.ensures.same) in
    c.of.ensures
    ∙ ap (λ (h : WarningHead). facts_before c.args.there.now.line c.args.there.now.down c.is_here-here.result bits (Some h)) c.in_ok-before.ensures.before
    ∙ before_is c.args.self.now.register c.args.self.now.areas c.args.there.now.down c.args.there.now.spot.bsc c.args.there.now.spot.cell c.args.there.now.line c.is_here-here.result bits c.args.w.now c.is_here-here.ensures.here names
