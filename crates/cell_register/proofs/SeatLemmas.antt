-- Cells by BSC: the order of seats, and the cells of one BSC among them.
use Rattle.std.proofs.Common.{◌≡◌, ℕ, ◌+◌, Bool, true, false, cond, ◌&&◌, ◌||◌, not, List, [], ◌∷◌, nat_eq, filter, map, if◌then◌else◌, refl, sym, ◌∙◌, ap, arith}
use Rattle.std.proofs.lemmas.Bool.{and_from}
use Rattle.std.proofs.lemmas.Bool.Decides.{nat_tests}
use Rattle.std.proofs.lemmas.Grind.{common_steps}
use Rattle.std.proofs.lemmas.List.Elements.{filter_agree}
use Rattle.std.proofs.lemmas.Map.Keys.{sorted_head, sorted_tail}
use Rattle.std.specs.BTreeMap.{is_at}
use Rattle.std.specs.List.{AllByRecursion, list_any, list_all}
use Rattle.std.specs.List.Sorted.{IsStrictlySortedBy}
use Rattle.std.specs.Ordering.{nat_cmp, ordering_then, is_le}
use Rattle.std.specs.declared.cmp.Ordering.{Ordering}
use Rattle.std.specs.declared.cmp.Ordering.TheVariants.{Less}
use Rattle.common.specs.Cell.{cell_eq, cell_lt, cell_cmp}
use Rattle.common.specs.Order.{is_ascending}
use Rattle.common.specs.declared.cell.Cell.{Cell}
use Rattle.cell_register.specs.Places.{seat, least, has_seat, IsWithSeat, IsWithoutSeat}
use Rattle.cell_register.specs.declared.seat.Seat.{Seat}

-- the order of seats
abbrev pub seat_cmp : Seat → Seat → Ordering
seat_cmp x y = ordering_then (nat_cmp x.bsc y.bsc) (cell_cmp x.cell y.cell)

-- the seat is at the BSC
abbrev pub is_of : ℕ → Seat → Bool
is_of b s = nat_eq s.bsc b

-- the cell of the seat
abbrev pub cell_of_seat : Seat → Cell
cell_of_seat s = s.cell

-- a seat is found where the BSC and the cell are the same
pub at_seat : (b : ℕ) (c : Cell) (s : Seat) → is_at (seat_cmp (seat b c)) s ≡ (nat_eq s.bsc b && cell_eq s.cell c)
at_seat b c s = grind (arith, nat_tests, common_steps)

-- the set contains what is found in it
pub has_seat_is : (b : ℕ) (c : Cell) (seats : List Seat) → list_any (is_at (seat_cmp (seat b c))) seats ≡ has_seat seats b c
has_seat_is b c [] = refl
has_seat_is b c (s ∷ seats) = rw (at_seat b c s, has_seat_is b c seats) refl

-- what there is once a seat was put in
pub with_seat : (b : ℕ) (c : Cell) (old new : List Seat) → ((s : Seat) → list_any (is_at (seat_cmp s)) new ≡ cond (is_at (seat_cmp (seat b c)) s) true (list_any (is_at (seat_cmp s)) old)) → IsWithSeat old new b c
with_seat b c old new h d e =
    sym (has_seat_is d e new) ∙ h (seat d e) ∙ rw (at_seat b c (seat d e), has_seat_is d e old) (taken (nat_eq d b && cell_eq e c) (has_seat old d e))
  where
    taken : (t u : Bool) → cond t true u ≡ (t || u)
    taken true u = refl
    taken false u = refl

-- and once it was taken out
pub without_seat : (b : ℕ) (c : Cell) (old new : List Seat) → ((s : Seat) → list_any (is_at (seat_cmp s)) new ≡ cond (is_at (seat_cmp (seat b c)) s) false (list_any (is_at (seat_cmp s)) old)) → IsWithoutSeat old new b c
without_seat b c old new h d e =
    sym (has_seat_is d e new) ∙ h (seat d e) ∙ rw (at_seat b c (seat d e), has_seat_is d e old) (taken (nat_eq d b && cell_eq e c) (has_seat old d e))
  where
    taken : (t u : Bool) → cond t false u ≡ (not t && u)
    taken true u = refl
    taken false u = refl

-- between the least of a BSC and the least of the next are the seats of the BSC
pub at_between : (b : ℕ) (s : Seat) → (is_le (seat_cmp (least b) s) && not (is_le (seat_cmp (least (b + 1)) s))) ≡ is_of b s
at_between b s = grind (arith, nat_tests, common_steps)

pub between : (b : ℕ) (seats : List Seat) → filter (λ s. is_le (seat_cmp (least b) s) && not (is_le (seat_cmp (least (b + 1)) s))) seats ≡ filter (is_of b) seats
between b seats = filter_agree (λ s. is_le (seat_cmp (least b) s) && not (is_le (seat_cmp (least (b + 1)) s))) (is_of b) (at_between b) seats

-- the cells of the BSC, in the order of seats
abbrev pub cells_at : ℕ → List Seat → List Cell
cells_at b seats = map cell_of_seat (filter (is_of b) seats)

-- they are those that have a seat at the BSC
pub cells_at_has : (b : ℕ) (c : Cell) (seats : List Seat) → list_any (λ d. cell_eq d c) (cells_at b seats) ≡ has_seat seats b c
cells_at_has b c [] = refl
cells_at_has b c (s ∷ seats) = step (is_of b s) (cells_at_has b c seats)
  where
    step : (t : Bool) → list_any (λ d. cell_eq d c) (cells_at b seats) ≡ has_seat seats b c → list_any (λ d. cell_eq d c) (map cell_of_seat (if t then s ∷ filter (is_of b) seats else filter (is_of b) seats)) ≡ ((t && cell_eq s.cell c) || has_seat seats b c)
    step true rest = ap (λ t. cell_eq s.cell c || t) rest
    step false rest = rest

-- of two seats at one BSC the lesser has the lesser cell
lesser : (b : ℕ) (s t : Seat) → is_of b s ≡ true → is_of b t ≡ true → seat_cmp s t ≡ Less → cell_lt s.cell t.cell ≡ true
lesser b s t e f h = grind (arith, nat_tests, common_steps)

after : (b : ℕ) (s : Seat) (seats : List Seat) → is_of b s ≡ true → AllByRecursion (λ t. seat_cmp s t ≡ Less) seats → list_all (cell_lt s.cell) (cells_at b seats) ≡ true
after b s [] e h = refl
after b s (t ∷ seats) e h = step (is_of b t) refl (after b s seats e h.1)
  where
    step : (u : Bool) → is_of b t ≡ u → list_all (cell_lt s.cell) (cells_at b seats) ≡ true → list_all (cell_lt s.cell) (map cell_of_seat (if u then t ∷ filter (is_of b) seats else filter (is_of b) seats)) ≡ true
    step true f rest = and_from (cell_lt s.cell t.cell) (list_all (cell_lt s.cell) (cells_at b seats)) (lesser b s t e f h.0) rest
    step false f rest = rest

-- and in ascending order
pub cells_at_ascend : (b : ℕ) (seats : List Seat) → IsStrictlySortedBy seat_cmp seats → is_ascending cell_lt (cells_at b seats) ≡ true
cells_at_ascend b [] h = refl
cells_at_ascend b (s ∷ seats) h = step (is_of b s) refl (cells_at_ascend b seats (sorted_tail seat_cmp s seats h))
  where
    step : (t : Bool) → is_of b s ≡ t → is_ascending cell_lt (cells_at b seats) ≡ true → is_ascending cell_lt (map cell_of_seat (if t then s ∷ filter (is_of b) seats else filter (is_of b) seats)) ≡ true
    step true e rest = and_from (list_all (cell_lt s.cell) (cells_at b seats)) (is_ascending cell_lt (cells_at b seats)) (after b s seats e (sorted_head seat_cmp s seats h)) rest
    step false e rest = rest

-- a list is not empty just where one of all its elements passes the test
pub any_kept : (b : ℕ) (seats : List Seat) → list_any (is_of b) seats ≡ list_any (λ _. true) (filter (is_of b) seats)
any_kept b [] = refl
any_kept b (s ∷ seats) = step (is_of b s) (any_kept b seats)
  where
    step : (t : Bool) → list_any (is_of b) seats ≡ list_any (λ _. true) (filter (is_of b) seats) → (t || list_any (is_of b) seats) ≡ list_any (λ _. true) (if t then s ∷ filter (is_of b) seats else filter (is_of b) seats)
    step true rest = refl
    step false rest = rest
