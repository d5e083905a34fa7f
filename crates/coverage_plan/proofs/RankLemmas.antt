-- Checks in the order of their refusals.
use Rattle.std.proofs.Common.{◌≡◌, ◌≤◌, ℕ, Bool, true, false, ◌&&◌, ◌||◌, List, [], ◌∷◌, Some, ltb, nat_eq, arith, refl, sym, ◌∙◌, ap}
use Rattle.std.proofs.lemmas.Bool.{and_parts}
use Rattle.std.proofs.lemmas.Bool.Decides.{nat_tests}
use Rattle.std.proofs.lemmas.Grind.{common_steps}
use Rattle.std.specs.List.{list_all}
use Rattle.common.specs.Checks.{first_refusal}
use Rattle.common.specs.Order.{is_ascending}
use Rattle.coverage_plan.specs.CheckLaws.{rank, ranks_before, holds}
use Rattle.coverage_plan.specs.Checks.{edit_checks}
use Rattle.coverage_plan.specs.Plan.{State}
use Rattle.coverage_plan.specs.declared.edit.Edit.{Edit}
use Rattle.coverage_plan.specs.declared.edit.Edit.TheVariants.{AddBsc, RemoveBsc, AddCell, MoveCell, RemoveCell, AddArea, DropArea, Put, Cut, Issue, Update, Widen, Narrow, Stop, Forget}
use Rattle.coverage_plan.specs.declared.refusal.Refusal.{Refusal}
use Rattle.coverage_plan.specs.declared.refusal.Refusal.TheVariants as refusal

-- the checks of each edit stand in order
pub in_order : (st : State) (edit : Edit) → is_ascending ranks_before (edit_checks st edit) ≡ true
in_order st (AddBsc b) = refl
in_order st (RemoveBsc b) = refl
in_order st (AddCell c b) = refl
in_order st (MoveCell c b) = refl
in_order st (RemoveCell c) = refl
in_order st (AddArea a) = refl
in_order st (DropArea a) = refl
in_order st (Put a s) = refl
in_order st (Cut a s) = refl
in_order st (Issue notice areas) = refl
in_order st (Update n content) = refl
in_order st (Widen n a) = refl
in_order st (Narrow n a) = refl
in_order st (Stop n) = refl
in_order st (Forget n) = refl

below : (a b c : ℕ) → ltb a b ≡ true → nat_eq b c ≡ true → a ≤ c
below a b c less same = grind (arith, nat_tests, common_steps)

same_place : (a b : ℕ) → nat_eq a b ≡ true → a ≤ b
same_place a b same = grind (arith, nat_tests, common_steps)

-- what holds behind a check that comes before all of them comes no earlier
later : (x : Refusal) (r : Refusal) (checks : List (Bool × Refusal)) → list_all (ranks_before (true, x)) checks ≡ true → holds r checks ≡ true → rank x ≤ rank r
later x r [] before there = cc
later x r ((t, y) ∷ checks) before there = step t (nat_eq (rank y) (rank r)) refl (later x r checks parts.1) there
  where
    parts : (ltb (rank x) (rank y) ≡ true) × (list_all (ranks_before (true, x)) checks ≡ true)
    parts = and_parts (ltb (rank x) (rank y)) (list_all (ranks_before (true, x)) checks) before

    step : (u v : Bool) → nat_eq (rank y) (rank r) ≡ v → (holds r checks ≡ true → rank x ≤ rank r) → ((u && v) || holds r checks) ≡ true → rank x ≤ rank r
    step true true same rest h = below (rank x) (rank y) (rank r) parts.0 same
    step true false same rest h = rest h
    step false v same rest h = rest h

-- the refusal of the first check that holds is the first of all that hold
pub first_of_all : (checks : List (Bool × Refusal)) (e r : Refusal) → is_ascending ranks_before checks ≡ true → first_refusal checks ≡ Some e → holds r checks ≡ true → rank e ≤ rank r
first_of_all [] e r order first there = cc
first_of_all ((true, x) ∷ checks) e r order first there = let is : x ≡ e = cc in ap_rank is (step (nat_eq (rank x) (rank r)) refl there)
  where
    parts : (list_all (ranks_before (true, x)) checks ≡ true) × (is_ascending ranks_before checks ≡ true)
    parts = and_parts (list_all (ranks_before (true, x)) checks) (is_ascending ranks_before checks) order

    ap_rank : x ≡ e → rank x ≤ rank r → rank e ≤ rank r
    ap_rank is h = rw (sym is) h

    step : (v : Bool) → nat_eq (rank x) (rank r) ≡ v → (v || holds r checks) ≡ true → rank x ≤ rank r
    step true same h = same_place (rank x) (rank r) same
    step false same h = later x r checks parts.0 h
first_of_all ((false, x) ∷ checks) e r order first there =
    first_of_all checks e r (and_parts (list_all (ranks_before (false, x)) checks) (is_ascending ranks_before checks) order).1 first there

pub is_first_of_all : (st : State) (edit : Edit) (e r : Refusal) → first_refusal (edit_checks st edit) ≡ Some e → holds r (edit_checks st edit) ≡ true → rank e ≤ rank r
is_first_of_all st edit e r first there = first_of_all (edit_checks st edit) e r (in_order st edit) first there

-- the refusal is a cause that a check looks for
abbrev is_cause : Refusal → Bool
is_cause refusal.Memory = false
is_cause other = true

each_is_cause : (checks : List (Bool × Refusal)) (e : Refusal) → list_all (λ (check : Bool × Refusal). is_cause check.1) checks ≡ true → first_refusal checks ≡ Some e → is_cause e ≡ true
each_is_cause [] e all first = cc
each_is_cause ((true, x) ∷ checks) e all first =
    let is : x ≡ e = cc in ap is_cause (sym is) ∙ (and_parts (is_cause x) (list_all (λ (check : Bool × Refusal). is_cause check.1) checks) all).0
each_is_cause ((false, x) ∷ checks) e all first =
    each_is_cause checks e (and_parts (is_cause x) (list_all (λ (check : Bool × Refusal). is_cause check.1) checks) all).1 first

are_causes : (st : State) (edit : Edit) → list_all (λ (check : Bool × Refusal). is_cause check.1) (edit_checks st edit) ≡ true
are_causes st (AddBsc b) = refl
are_causes st (RemoveBsc b) = refl
are_causes st (AddCell c b) = refl
are_causes st (MoveCell c b) = refl
are_causes st (RemoveCell c) = refl
are_causes st (AddArea a) = refl
are_causes st (DropArea a) = refl
are_causes st (Put a s) = refl
are_causes st (Cut a s) = refl
are_causes st (Issue notice areas) = refl
are_causes st (Update n content) = refl
are_causes st (Widen n a) = refl
are_causes st (Narrow n a) = refl
are_causes st (Stop n) = refl
are_causes st (Forget n) = refl

pub none_is_memory : (st : State) (edit : Edit) → first_refusal (edit_checks st edit) ≡ Some refusal.Memory → ⊥
none_is_memory st edit first = let no : false ≡ true = each_is_cause (edit_checks st edit) refusal.Memory (are_causes st edit) first in cc
