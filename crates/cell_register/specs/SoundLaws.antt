-- Each event that is not refused leaves a register.
use Rattle.std.proofs.Common.{◌≡◌, ◌<◌, ℕ, Bool, true, false, ◌||◌, not, List, map, nat_eq, ltb, length, if◌then◌else◌, refl, sym, ◌∙◌, ap, arith}
use Rattle.std.proofs.lemmas.Bool.{and_from, or_right}
use Rattle.std.specs.Cmp.{unsigned_Decides}
use Rattle.std.specs.List.{list_all}
use Rattle.std.specs.Option.{is_some}
use Rattle.common.specs.Cell.{cell_eq, cell_lt}
use Rattle.common.specs.declared.cell.Cell.{Cell}
use Rattle.cell_register.specs.CellLaws.{cell_lt_follows, cell_lt_apart, ltb_follows, ltb_apart}
use Rattle.common.specs.OnceLaws.{turned}
use Rattle.cell_register.specs.Laws.{has_bsc_with_bsc, has_bsc_without_bsc, length_with_bsc, length_with_cell, length_moved, is_some_place_among}
use Rattle.common.specs.Order.{inserted, is_ascending}
use Rattle.common.specs.OrderLaws.{all_same, all_besides, all_from_none, all_map, all_filter, all_inserted, ascending_inserted, ascending_filter, ascending_map, length_filter}
use Rattle.cell_register.specs.Register.{State, empty, has_bsc, place_among, place_in, has_cells, placed_lt, new_placed, cell_of, with_bsc, without_bsc, with_cell, placed_after_move, moved, without_cell}
use Rattle.cell_register.specs.Sound.{IsRegister}
use Rattle.cell_register.specs.declared.placed.Placed.{Placed}

pub empty_sound : IsRegister empty
empty_sound = record { bscs_ascend = refl; cells_ascend = refl; placed = refl; few_bscs = omega arith; few_cells = omega arith }

pub with_bsc_sound : (b : ℕ) (r : State) → IsRegister r → has_bsc r b ≡ false → length r.bscs < 256 → IsRegister (with_bsc b r)
with_bsc_sound b r sound fresh room = record {
  bscs_ascend = ascending_inserted ltb ltb_follows b r.bscs (all_from_none (λ x. nat_eq x b) (λ x. ltb x b || ltb b x) (λ x. ltb_apart b x) r.bscs fresh) sound.bscs_ascend;
  cells_ascend = sound.cells_ascend;
  placed = all_same (λ p. has_bsc r p.bsc) (λ p. has_bsc (with_bsc b r) p.bsc) (λ p h. has_bsc_with_bsc b p.bsc r ∙ or_right (nat_eq b p.bsc) (has_bsc r p.bsc) h) r.cells sound.placed;
  few_bscs = omega (arith, length_with_bsc b r);
  few_cells = sound.few_cells;
}

pub without_bsc_sound : (b : ℕ) (r : State) → IsRegister r → has_cells r b ≡ false → IsRegister (without_bsc b r)
without_bsc_sound b r sound none = record {
  bscs_ascend = ascending_filter ltb (λ x. not (nat_eq x b)) r.bscs sound.bscs_ascend;
  cells_ascend = sound.cells_ascend;
  placed = all_besides (λ p. has_bsc r p.bsc) (λ p. nat_eq p.bsc b) (λ p. has_bsc (without_bsc b r) p.bsc) (λ p h n. has_bsc_without_bsc b p.bsc r ∙ and_from (not (nat_eq b p.bsc)) (has_bsc r p.bsc) (ap not (turned nat_eq unsigned_Decides b p.bsc ∙ n)) h) r.cells sound.placed none;
  few_bscs = let few = sound.few_bscs in omega (arith, length_filter (λ x. not (nat_eq x b)) r.bscs);
  few_cells = sound.few_cells;
}

-- with one more cell they are in ascending order
pub with_cell_ascends : (c : Cell) (b : ℕ) (ps : List Placed) → is_some (place_among ps c) ≡ false → is_ascending placed_lt ps ≡ true → is_ascending placed_lt (inserted placed_lt (new_placed c b) ps) ≡ true
with_cell_ascends c b ps fresh order =
    ascending_inserted placed_lt (λ p q s. cell_lt_follows p.cell q.cell s.cell) (new_placed c b) ps (all_from_none (λ p. cell_eq p.cell c) (λ p. placed_lt p (new_placed c b) || placed_lt (new_placed c b) p) (λ p. cell_lt_apart c p.cell) ps (sym (is_some_place_among c ps) ∙ fresh)) order

pub with_cell_sound : (c : Cell) (b : ℕ) (r : State) → IsRegister r → has_bsc r b ≡ true → is_some (place_in r c) ≡ false → length r.cells < 65536 → IsRegister (with_cell c b r)
with_cell_sound c b r sound there fresh room = record {
  bscs_ascend = sound.bscs_ascend;
  cells_ascend = with_cell_ascends c b r.cells fresh sound.cells_ascend;
  placed = all_inserted placed_lt (λ p. has_bsc r p.bsc) (new_placed c b) r.cells ∙ and_from (has_bsc r b) (list_all (λ p. has_bsc r p.bsc) r.cells) there sound.placed;
  few_bscs = sound.few_bscs;
  few_cells = omega (arith, length_with_cell c b r);
}

set_cell : (t : Bool) (b : ℕ) (p : Placed) → cell_of (if t then record p { bsc = b } else p) ≡ p.cell
set_cell true b p = refl
set_cell false b p = refl

set_order : (c : Cell) (b : ℕ) (p q : Placed) → placed_lt p q ≡ true → placed_lt (placed_after_move c b p) (placed_after_move c b q) ≡ true
set_order c b p q h =
    ap (λ k. cell_lt k (placed_after_move c b q).cell) (set_cell (cell_eq p.cell c) b p) ∙ (ap (λ k. cell_lt p.cell k) (set_cell (cell_eq q.cell c) b q) ∙ h)

-- the BSC of the cell passes the test
abbrev bsc_passes : (ℕ → Bool) → Placed → Bool
bsc_passes test p = test p.bsc

set_bsc : (test : ℕ → Bool) (t : Bool) (b : ℕ) (p : Placed) → test b ≡ true → test p.bsc ≡ true → bsc_passes test (if t then record p { bsc = b } else p) ≡ true
set_bsc test true b p h g = h
set_bsc test false b p h g = g

-- with a cell at another BSC they are in ascending order
pub moved_ascends : (c : Cell) (b : ℕ) (ps : List Placed) → is_ascending placed_lt ps ≡ true → is_ascending placed_lt (map (placed_after_move c b) ps) ≡ true
moved_ascends c b ps order = ascending_map placed_lt placed_lt (placed_after_move c b) (set_order c b) ps order

pub moved_sound : (c : Cell) (b : ℕ) (r : State) → IsRegister r → has_bsc r b ≡ true → IsRegister (moved c b r)
moved_sound c b r sound there = record {
  bscs_ascend = sound.bscs_ascend;
  cells_ascend = moved_ascends c b r.cells sound.cells_ascend;
  placed = all_map (λ p. has_bsc r p.bsc) (λ p. has_bsc r p.bsc) (placed_after_move c b) (λ p. set_bsc (has_bsc r) (cell_eq p.cell c) b p there) r.cells sound.placed;
  few_bscs = sound.few_bscs;
  few_cells = let few = sound.few_cells in omega (arith, length_moved c b r);
}

pub without_cell_sound : (c : Cell) (r : State) → IsRegister r → IsRegister (without_cell c r)
without_cell_sound c r sound = record {
  bscs_ascend = sound.bscs_ascend;
  cells_ascend = ascending_filter placed_lt (λ p. not (cell_eq p.cell c)) r.cells sound.cells_ascend;
  placed = all_filter (λ p. has_bsc r p.bsc) (λ p. not (cell_eq p.cell c)) r.cells sound.placed;
  few_bscs = sound.few_bscs;
  few_cells = let few = sound.few_cells in omega (arith, length_filter (λ p. not (cell_eq p.cell c)) r.cells);
}
