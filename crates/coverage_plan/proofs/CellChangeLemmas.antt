-- Which pairs an edit of the register changes.
use Rattle.std.proofs.Common.{◌≡◌, ℕ, Bool, true, false, ◌&&◌, not, [], Option, Some, None, if◌then◌else◌, refl, sym, ◌∙◌, ap}
use Rattle.std.specs.Option.{is_some}
use Rattle.cell_register.specs.Laws.{place_in_with_cell, place_in_moved, place_in_without_cell}
use Rattle.cell_register.specs.Register.{place_in, with_cell, moved, without_cell, is_place}
use Rattle.cell_register.specs.Register as registered
use Rattle.common.specs.Cell.{cell_eq}
use Rattle.common.specs.Equality.{cell_decides}
use Rattle.common.specs.declared.cell.Cell.{Cell}
use Rattle.warning_book.specs.Book.{is_there, warning_of}
use Rattle.warning_book.specs.declared.warning.Warning.{Warning}
use Rattle.coverage_plan.proofs.ChangeLemmas.{changed_with, still, by_place}
use Rattle.coverage_plan.specs.ChangeLaws.{there_found}
use Rattle.coverage_plan.specs.Changes.{Changes, differ, is_changed}
use Rattle.coverage_plan.specs.Plan.{State, place}
use Rattle.coverage_plan.specs.Reach.{is_of_cell}

-- the plan with another register
abbrev pub with_register : State → registered.State → State
with_register st r = record st { register = r }

-- no pair changes where no cell is placed elsewhere
pub no_cell : (st : State) (r : registered.State) → ((c : Cell) → place_in r c ≡ place st c) → Changes st (with_register st r) []
no_cell st r same = record {
  ordered = refl;
  exact = λ c n. sym (changed_with st (with_register st r) c n (place st c) (place st c) (warning_of st.book n) (warning_of st.book n) refl (same c) refl refl ∙ still (place st c) st.areas st.areas c (warning_of st.book n) refl);
}

-- where one cell is placed elsewhere, its pairs change and no others
one_cell : (c : Cell) (st : State) (r : registered.State) → ((d : Cell) → cell_eq c d ≡ false → place_in r d ≡ place st d) → ((d : Cell) → cell_eq c d ≡ true → differ (place st d) (place_in r d) ≡ true) → (d : Cell) (n : ℕ) → is_of_cell c st.book d n ≡ is_changed st (with_register st r) d n
one_cell c st r same other d n = step (cell_eq c d) refl
  where
    v : Option Warning
    v = warning_of st.book n

    step : (t : Bool) → cell_eq c d ≡ t → (t && is_there st.book n) ≡ is_changed st (with_register st r) d n
    step true e =
        there_found n st.book.warnings ∙ sym (changed_with st (with_register st r) d n (place st d) (place_in r d) v v refl refl refl refl ∙ by_place (place st d) (place_in r d) st.areas st.areas d v (other d e))
    step false e =
        sym (changed_with st (with_register st r) d n (place st d) (place st d) v v refl (same d e) refl refl ∙ still (place st d) st.areas st.areas d v refl)

-- at a place or elsewhere, by the test of the cell
at_if : (t : Bool) (o p : Option ℕ) → t ≡ false → (if t then o else p) ≡ p
at_if true o p h = cc
at_if false o p h = refl

at_then : (t : Bool) (o p : Option ℕ) → t ≡ true → (if t then o else p) ≡ o
at_then true o p h = refl
at_then false o p h = cc

-- the place of a cell that is that cell
place_along : (c d : Cell) (r : registered.State) → cell_eq c d ≡ true → place_in r d ≡ place_in r c
place_along c d r e = ap (place_in r) (sym ((cell_decides c d).0 e))

-- a cell that was at no BSC is at one
now_placed : (o : Option ℕ) (b : ℕ) → is_some o ≡ false → differ o (Some b) ≡ true
now_placed None b h = refl
now_placed (Some d) b h = cc

-- it was at another BSC
placed_elsewhere : (o : Option ℕ) (b : ℕ) → is_some o ≡ true → is_place o b ≡ false → differ o (Some b) ≡ true
placed_elsewhere None b h g = refl
placed_elsewhere (Some d) b h g = ap not g

-- it was at a BSC and is at none
no_more_placed : (o : Option ℕ) → is_some o ≡ true → differ o None ≡ true
no_more_placed None h = cc
no_more_placed (Some d) h = refl

-- a cell is added
pub added_cell : (st : State) (c : Cell) (b : ℕ) → is_some (place st c) ≡ false → (d : Cell) (n : ℕ) → is_of_cell c st.book d n ≡ is_changed st (with_register st (with_cell c b st.register)) d n
added_cell st c b fresh =
    one_cell c st (with_cell c b st.register)
    (λ d e. place_in_with_cell c b d st.register ∙ at_if (cell_eq c d) (Some b) (place st d) e)
    (λ d e. ap (differ (place st d)) (place_in_with_cell c b d st.register ∙ at_then (cell_eq c d) (Some b) (place st d) e) ∙ now_placed (place st d) b (ap (λ (o : Option ℕ). is_some o) (place_along c d st.register e) ∙ fresh))

-- a cell is moved
pub moved_cell : (st : State) (c : Cell) (b : ℕ) → is_some (place st c) ≡ true → is_place (place st c) b ≡ false → (d : Cell) (n : ℕ) → is_of_cell c st.book d n ≡ is_changed st (with_register st (moved c b st.register)) d n
moved_cell st c b there other =
    one_cell c st (moved c b st.register)
    (λ d e. place_in_moved c b d st.register there ∙ at_if (cell_eq c d) (Some b) (place st d) e)
    (λ d e. ap (differ (place st d)) (place_in_moved c b d st.register there ∙ at_then (cell_eq c d) (Some b) (place st d) e) ∙ placed_elsewhere (place st d) b (ap (λ (o : Option ℕ). is_some o) (place_along c d st.register e) ∙ there) (ap (λ (o : Option ℕ). is_place o b) (place_along c d st.register e) ∙ other))

-- a cell is taken out
pub removed_cell : (st : State) (c : Cell) → is_some (place st c) ≡ true → (d : Cell) (n : ℕ) → is_of_cell c st.book d n ≡ is_changed st (with_register st (without_cell c st.register)) d n
removed_cell st c there =
    one_cell c st (without_cell c st.register)
    (λ d e. place_in_without_cell c d st.register ∙ at_if (cell_eq c d) None (place st d) e)
    (λ d e. ap (differ (place st d)) (place_in_without_cell c d st.register ∙ at_then (cell_eq c d) None (place st d) e) ∙ no_more_placed (place st d) (ap (λ (o : Option ℕ). is_some o) (place_along c d st.register e) ∙ there))
