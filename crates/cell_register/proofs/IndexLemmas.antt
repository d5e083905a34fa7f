-- The index by BSC: what it says of a BSC's cells, and how it is made.
use Rattle.std.proofs.Common.{◌≡◌, ℕ, Bool, true, false, ◌&&◌, ◌||◌, List, [], ◌∷◌, Option, None, Some, nat_eq, filter, map, if◌then◌else◌, refl, sym, ◌∙◌, ap, arith}
use Rattle.std.proofs.lemmas.Bool.{and_parts, eqb-true, eq-eqb, or_right}
use Rattle.std.proofs.lemmas.Bool.Decides.{nat_tests}
use Rattle.std.proofs.lemmas.Grind.{common_steps}
use Rattle.std.specs.Cmp.{both_ways, unsigned_Decides}
use Rattle.std.specs.List.{list_any, list_all}
use Rattle.std.specs.Option.{is_some}
use Rattle.common.specs.Cell.{cell_eq, cell_lt}
use Rattle.common.specs.Equality.{cell_decides}
use Rattle.common.specs.OnceLaws.{any_turned, turned}
use Rattle.common.specs.Order.{is_ascending}
use Rattle.common.specs.OrderLaws.{ascending_filter, ascending_map}
use Rattle.common.specs.SortingLaws.{same_ascending}
use Rattle.common.specs.declared.cell.Cell.{Cell}
use Rattle.cell_register.specs.CellLaws.{cell_lt_follows}
use Rattle.cell_register.specs.Laws.{at_bsc, cell_at, nowhere_after, one_of_bsc}
use Rattle.cell_register.specs.Places.{has_seat, IsIndex, IsWithSeat}
use Rattle.cell_register.specs.Register.{cell_of, is_place, place_among, placed_lt}
use Rattle.cell_register.specs.declared.placed.Placed.{Placed}
use Rattle.cell_register.specs.declared.seat.Seat.{Seat}
use Rattle.cell_register.proofs.SeatLemmas.{is_of}

not_itself : (c : Cell) → cell_lt c c ≡ false
not_itself c = grind (arith, nat_tests, common_steps)

-- the cells of the BSC by the index are those among all
pub cells_by_index : (seats : List Seat) (ps : List Placed) (b : ℕ) (found : List Cell) → IsIndex seats (place_among ps) → is_ascending placed_lt ps ≡ true → ((c : Cell) → list_any (λ d. cell_eq d c) found ≡ has_seat seats b c) → is_ascending cell_lt found ≡ true → found ≡ map cell_of (filter (λ p. nat_eq p.bsc b) ps)
cells_by_index seats ps b found index order has ascend =
    same_ascending cell_eq cell_lt cell_decides not_itself cell_lt_follows found there ascend ascend_there same
  where
    there : List Cell
    there = map cell_of (filter (λ p. nat_eq p.bsc b) ps)

    ascend_there : is_ascending cell_lt there ≡ true
    ascend_there = ascending_map placed_lt cell_lt cell_of (λ p q h. h) (filter (λ p. nat_eq p.bsc b) ps) (ascending_filter placed_lt (λ p. nat_eq p.bsc b) ps order)

    same : (c : Cell) → list_any (cell_eq c) found ≡ list_any (cell_eq c) there
    same c =
        any_turned cell_eq cell_decides c found ∙ has c ∙ index b c ∙ sym (one_of_bsc ps c b order) ∙ sym (any_turned cell_eq cell_decides c there)

-- a BSC with a seat has a cell
seat_there : (b : ℕ) (seats : List Seat) → list_any (is_of b) seats ≡ true → (c : Cell) × (has_seat seats b c ≡ true)
seat_there b [] h = cc
seat_there b (s ∷ seats) h = step (is_of b s) (seat_there b seats) h
  where
    step : (t : Bool) → (list_any (is_of b) seats ≡ true → (c : Cell) × (has_seat seats b c ≡ true)) → (t || list_any (is_of b) seats) ≡ true → (c : Cell) × (((t && cell_eq s.cell c) || has_seat seats b c) ≡ true)
    step true rest g = (s.cell, ap (λ t. t || has_seat seats b s.cell) ((cell_decides s.cell s.cell).1 refl))
    step false rest g = rest g

any_seat : (b : ℕ) (c : Cell) (seats : List Seat) → has_seat seats b c ≡ true → list_any (is_of b) seats ≡ true
any_seat b c [] h = cc
any_seat b c (s ∷ seats) h = step (is_of b s) (any_seat b c seats) h
  where
    step : (t : Bool) → (has_seat seats b c ≡ true → list_any (is_of b) seats ≡ true) → ((t && cell_eq s.cell c) || has_seat seats b c) ≡ true → (t || list_any (is_of b) seats) ≡ true
    step true rest g = refl
    step false rest g = rest g

the_place : (o : Option ℕ) (b : ℕ) → is_place o b ≡ true → o ≡ Some b
the_place None b h = cc
the_place (Some d) b h = ap (λ (n : ℕ). Some n) (eqb-true d b h)

-- a BSC has cells by the index just where one of all is at it
pub any_by_index : (seats : List Seat) (ps : List Placed) (b : ℕ) → IsIndex seats (place_among ps) → is_ascending placed_lt ps ≡ true → list_any (is_of b) seats ≡ list_any (λ p. nat_eq p.bsc b) ps
any_by_index seats ps b index order = both_ways (list_any (is_of b) seats) (list_any (λ p. nat_eq p.bsc b) ps) there back
  where
    there : list_any (is_of b) seats ≡ true → list_any (λ p. nat_eq p.bsc b) ps ≡ true
    there h =
        let found = seat_there b seats h in
        at_bsc ps found.0 b (the_place (place_among ps found.0) b (sym (index b found.0) ∙ found.1))

    back : list_any (λ p. nat_eq p.bsc b) ps ≡ true → list_any (is_of b) seats ≡ true
    back h =
        let found = cell_at ps b order h in
        any_seat b found.0 seats (index b found.0 ∙ ap (λ o. is_place o b) found.1 ∙ eq-eqb b b refl)

-- the seats so far, and the cells that are still to come
pub record IsIndexOfFirst (seats : List Seat) (rest all : List Placed) : Type 0 where
  pub ascend : is_ascending placed_lt rest ≡ true
  pub joined : (b : ℕ) (c : Cell) → is_place (place_among all c) b ≡ (has_seat seats b c || is_place (place_among rest c) b)

no_place : (o : Option ℕ) (b : ℕ) → is_some o ≡ false → is_place o b ≡ false
no_place None b h = refl
no_place (Some d) b h = cc

one_more : (t s h : Bool) (o : Option ℕ) (d b : ℕ) → nat_eq d b ≡ s → (t ≡ true → is_some o ≡ false) → (h || is_place (if t then Some d else o) b) ≡ (((s && t) || h) || is_place o b)
one_more true s h o d b e nowhere =
    ap (λ t. h || t) e ∙ settled s h ∙ sym (ap (λ t. ((s && true) || h) || t) (no_place o b (nowhere refl)))
  where
    settled : (s h : Bool) → (h || s) ≡ (((s && true) || h) || false)
    settled true h = or_right h true refl
    settled false h = refl
one_more false true h o d b e nowhere = refl
one_more false false h o d b e nowhere = refl

-- one more cell
pub index_more : (old new : List Seat) (p : Placed) (rest all : List Placed) → IsIndexOfFirst old (p ∷ rest) all → IsWithSeat old new p.bsc p.cell → IsIndexOfFirst new rest all
index_more old new p rest all before with_seat = record {
  ascend = order.1;
  joined = λ b c. before.joined b c ∙ one_more (cell_eq p.cell c) (nat_eq p.bsc b) (has_seat old b c) (place_among rest c) p.bsc b refl (nowhere_after p rest c order.0) ∙ ap (λ t. t || is_place (place_among rest c) b) (sym (added b c));
}
  where
    order : (list_all (placed_lt p) rest ≡ true) × (is_ascending placed_lt rest ≡ true)
    order = and_parts (list_all (placed_lt p) rest) (is_ascending placed_lt rest) before.ascend

    added : (b : ℕ) (c : Cell) → has_seat new b c ≡ ((nat_eq p.bsc b && cell_eq p.cell c) || has_seat old b c)
    added b c = rw (turned nat_eq unsigned_Decides p.bsc b, turned cell_eq cell_decides p.cell c) (with_seat b c)
