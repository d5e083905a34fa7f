-- Cells in order: where a cell stands, and what an edit at its place makes of them.
use Rattle.std.proofs.Common.{◌≡◌, ℕ, zero, suc, ◌<◌, ◌≤◌, Bool, true, false, not, List, [], ◌∷◌, ◌++◌, None, Some, length, take, drop, set, get_or, filter, map, refl, sym, ◌∙◌, ap, arith}
use Rattle.std.proofs.lemmas.Bool.{and_parts, or_from, or_parts}
use Rattle.std.proofs.lemmas.Bool.Decides.{nat_tests}
use Rattle.std.proofs.lemmas.Grind.{common_steps}
use Rattle.std.specs.List.{list_any, list_all}
use Rattle.std.specs.List.Sorted.{IsPartitionedBy}
use Rattle.common.specs.Cell.{cell_eq, cell_lt}
use Rattle.common.specs.OnceLaws.{kept_whole}
use Rattle.common.specs.Order.{inserted, is_ascending}
use Rattle.common.specs.declared.cell.Cell.{Cell}
use Rattle.cell_register.specs.CellLaws.{cell_lt_follows}
use Rattle.cell_register.specs.Laws.{is_some_place_among, nowhere_after}
use Rattle.cell_register.specs.Places.{IsStart, StandsAt}
use Rattle.cell_register.specs.Register.{new_placed, place_among, placed_after_move, placed_lt}
use Rattle.cell_register.specs.declared.placed.Placed.{Placed}
use Rattle.common.specs.RisingLaws.{at_place, parted}

-- the registered cell comes before the cell
abbrev pub comes_before : Cell → Placed → Bool
comes_before c p = cell_lt p.cell c

-- a cell before one that comes before c does so too
pub parted_at : (c : Cell) (ps : List Placed) → is_ascending placed_lt ps ≡ true → IsPartitionedBy (comes_before c) ps
parted_at c ps o = parted placed_lt (comes_before c) (λ p q h g. cell_lt_follows p.cell q.cell c h g) ps o

-- a cell that comes before another is not that one
apart_before : (c d : Cell) → cell_lt d c ≡ true → cell_eq d c ≡ false
apart_before c d h = grind (arith, nat_tests, common_steps)

apart_after : (c d : Cell) → cell_lt c d ≡ true → cell_eq d c ≡ false
apart_after c d h = grind (arith, nat_tests, common_steps)

-- of two cells that differ, the one that doesn't come before the other comes after it
comes_after : (c d : Cell) → cell_lt d c ≡ false → cell_eq d c ≡ false → cell_lt c d ≡ true
comes_after c d h g = grind (arith, nat_tests, common_steps)

-- a cell that comes before one that is c is not c
apart_first : (c d e : Cell) → cell_lt d e ≡ true → cell_eq e c ≡ true → cell_eq d c ≡ false
apart_first c d e h g = grind (arith, nat_tests, common_steps)

-- the same of the cells after the first
start_behind : (c : Cell) (p : Placed) (ps : List Placed) (n : ℕ) → IsStart c (p ∷ ps) (suc n) → IsStart c ps n
start_behind c p ps n start = (λ k d low high. start.0 (suc k) d (omega arith) (omega arith), λ k d low high. start.1 (suc k) d (omega arith) (omega arith))

-- at its start a cell stands before the first that does not come before it
pub inserted_at : (c : Cell) (b : ℕ) (ps : List Placed) (n : ℕ) → n ≤ length ps → IsStart c ps n → take n ps ++ new_placed c b ∷ drop n ps ≡ inserted placed_lt (new_placed c b) ps
inserted_at c b [] zero h start = refl
inserted_at c b [] (suc n) h start = absurd (omega arith)
inserted_at c b (p ∷ ps) zero h start = rw (start.1 0 p (omega arith) (omega arith)) refl
inserted_at c b (p ∷ ps) (suc n) h start =
    rw (start.0 0 p (omega arith) (omega arith)) (ap (λ qs. p ∷ qs) (inserted_at c b ps n (omega arith) (start_behind c p ps n start)))

-- none of the cells after one that comes after c is c
none_behind : (c : Cell) (p : Placed) (ps : List Placed) → cell_lt c p.cell ≡ true → list_all (placed_lt p) ps ≡ true → list_any (λ q. cell_eq q.cell c) ps ≡ false
none_behind c p [] h all = refl
none_behind c p (q ∷ ps) h all =
    let parts = and_parts (placed_lt p q) (list_all (placed_lt p) ps) all in
    or_from (cell_eq q.cell c) (list_any (λ s. cell_eq s.cell c) ps) (apart_after c q.cell (cell_lt_follows c p.cell q.cell h parts.0)) (none_behind c p ps h parts.1)

-- where another stands at the start, the cell is none of them
pub none_at : (c : Cell) (ps : List Placed) (n : ℕ) (d : Placed) → is_ascending placed_lt ps ≡ true → n ≤ length ps → IsStart c ps n → (n < length ps → cell_eq (get_or ps n d).cell c ≡ false) → list_any (λ p. cell_eq p.cell c) ps ≡ false
none_at c [] n d o h start other = refl
none_at c (p ∷ ps) zero d o h start other =
    let differs : cell_eq p.cell c ≡ false = other (omega arith) in
    let after : cell_lt c p.cell ≡ true = comes_after c p.cell (start.1 0 p (omega arith) (omega arith)) differs in
    or_from (cell_eq p.cell c) (list_any (λ q. cell_eq q.cell c) ps) differs (none_behind c p ps after (and_parts (list_all (placed_lt p) ps) (is_ascending placed_lt ps) o).0)
none_at c (p ∷ ps) (suc n) d o h start other =
    or_from (cell_eq p.cell c) (list_any (λ q. cell_eq q.cell c) ps) (apart_before c p.cell (start.0 0 p (omega arith) (omega arith))) (none_at c ps n d (and_parts (list_all (placed_lt p) ps) (is_ascending placed_lt ps) o).1 (omega arith) (start_behind c p ps n start) (λ g. other (omega arith)))

-- a cell that is none of them has no place
pub place_none : (c : Cell) (ps : List Placed) → list_any (λ p. cell_eq p.cell c) ps ≡ false → place_among ps c ≡ None
place_none c [] h = refl
place_none c (p ∷ ps) h =
    let parts = or_parts (cell_eq p.cell c) (list_any (λ q. cell_eq q.cell c) ps) h in
    rw (parts.0, place_none c ps parts.1) refl

-- a move of a cell that is not there changes nothing
pub moved_none : (c : Cell) (b : ℕ) (ps : List Placed) → list_any (λ p. cell_eq p.cell c) ps ≡ false → map (placed_after_move c b) ps ≡ ps
moved_none c b [] h = refl
moved_none c b (p ∷ ps) h =
    let parts = or_parts (cell_eq p.cell c) (list_any (λ q. cell_eq q.cell c) ps) h in
    rw (parts.0, moved_none c b ps parts.1) refl

-- the cell of the first is none of the others
none_after : (p : Placed) (ps : List Placed) (c : Cell) → list_all (placed_lt p) ps ≡ true → cell_eq p.cell c ≡ true → list_any (λ q. cell_eq q.cell c) ps ≡ false
none_after p ps c order same = sym (is_some_place_among c ps) ∙ nowhere_after p ps c order same

-- the same of a place among the cells after the first
stands_behind : (c : Cell) (p : Placed) (ps : List Placed) (n : ℕ) → StandsAt c (p ∷ ps) (suc n) → StandsAt c ps n
stands_behind c p ps n at = record { bound = let b = at.bound in omega arith; same = λ d. at.same d }

-- the cell of the first is not c where c stands after it
first_differs : (c : Cell) (p : Placed) (ps : List Placed) (n : ℕ) → list_all (placed_lt p) ps ≡ true → StandsAt c ps n → cell_eq p.cell c ≡ false
first_differs c p ps n all at = apart_first c p.cell (get_or ps n p).cell (at_place (placed_lt p) ps n p at.bound all) (at.same p)

-- the BSC at the place is the cell's
pub place_at : (c : Cell) (ps : List Placed) (n : ℕ) (d : Placed) → is_ascending placed_lt ps ≡ true → StandsAt c ps n → place_among ps c ≡ Some (get_or ps n d).bsc
place_at c [] n d o at = let b = at.bound in absurd (omega arith)
place_at c (p ∷ ps) zero d o at = rw (at.same d) refl
place_at c (p ∷ ps) (suc n) d o at =
    let order = and_parts (list_all (placed_lt p) ps) (is_ascending placed_lt ps) o in
    let rest = stands_behind c p ps n at in
    rw (first_differs c p ps n order.0 rest) (place_at c ps n d order.1 rest)

-- a change at the place is the move of the cell
pub moved_at : (c : Cell) (b : ℕ) (ps : List Placed) (n : ℕ) (d : Placed) → is_ascending placed_lt ps ≡ true → StandsAt c ps n → set ps n (new_placed (get_or ps n d).cell b) ≡ map (placed_after_move c b) ps
moved_at c b [] n d o at = let b = at.bound in absurd (omega arith)
moved_at c b (p ∷ ps) zero d o at =
    let order = and_parts (list_all (placed_lt p) ps) (is_ascending placed_lt ps) o in
    rw (at.same d) (ap (λ qs. new_placed p.cell b ∷ qs) (sym (moved_none c b ps (none_after p ps c order.0 (at.same d)))))
moved_at c b (p ∷ ps) (suc n) d o at =
    let order = and_parts (list_all (placed_lt p) ps) (is_ascending placed_lt ps) o in
    let rest = stands_behind c p ps n at in
    rw (first_differs c p ps n order.0 rest) (ap (λ qs. p ∷ qs) (moved_at c b ps n d order.1 rest))

-- without what stands at the place they are without the cell
pub without_at : (c : Cell) (ps : List Placed) (n : ℕ) (d : Placed) → is_ascending placed_lt ps ≡ true → StandsAt c ps n → take n ps ++ drop (suc n) ps ≡ filter (λ p. not (cell_eq p.cell c)) ps
without_at c [] n d o at = let b = at.bound in absurd (omega arith)
without_at c (p ∷ ps) zero d o at =
    let order = and_parts (list_all (placed_lt p) ps) (is_ascending placed_lt ps) o in
    rw (at.same d) (sym (kept_whole (λ q. cell_eq q.cell c) ps (none_after p ps c order.0 (at.same d))))
without_at c (p ∷ ps) (suc n) d o at =
    let order = and_parts (list_all (placed_lt p) ps) (is_ascending placed_lt ps) o in
    let rest = stands_behind c p ps n at in
    rw (first_differs c p ps n order.0 rest) (ap (λ qs. p ∷ qs) (without_at c ps n d order.1 rest))
