-- The cells in which a version is on air, found by the lines of its warning.
use Rattle.std.proofs.Common.{◌≡◌, ℕ, ◌≤◌, ◌<◌, ◌%◌, Bool, true, false, ◌&&◌, List, [], ◌∷◌, Option, length, map, filter, if◌then◌else◌, refl, sym, ◌∙◌, ap, arith}
use Rattle.std.proofs.lemmas.Bool.{and_right}
use Rattle.std.proofs.lemmas.List.{get_or-replicate}
use Rattle.std.specs.List.Sorted.{IsStrictlySortedBy}
use Rattle.std.specs.Map.{keys_of}
use Rattle.cell_register.specs.CellLaws.{cell_lt_follows}
use Rattle.common.specs.Cell.{cell_eq, cell_lt}
use Rattle.common.specs.Equality.{cell_decides}
use Rattle.common.specs.SortingLaws.{same_ascending}
use Rattle.common.specs.declared.cell.Cell.{Cell}
use Rattle.mirror.proofs.CountLemmas.{kept_ascend, kept_cells, kept_have}
use Rattle.mirror.proofs.KeyLemmas.{not_before_itself}
use Rattle.mirror.proofs.OnAirLemmas.{filter_twice, own_after}
use Rattle.mirror.specs.Line.{blank, blank_line, state_of}
use Rattle.mirror.specs.OnAir.{AreOnAir, is_after, is_on_air_in, is_slot_for, on_air_cells}
use Rattle.mirror.specs.Order.{Slot, warning_slot_cmp}
use Rattle.mirror.specs.Seen.{is_on_air}
use Rattle.mirror.specs.Table.{Table}
use Rattle.mirror.specs.declared.line.Line.{Line}

-- in a blank line nothing is on air
blank_off_air : (s : ℕ) → is_on_air (state_of blank_line s).presence ≡ false
blank_off_air s =
    let below : s % 16 < 16 = omega arith in
    ap (λ k. is_on_air k.presence) (get_or-replicate 16 (s % 16) blank blank below)

together : (x y z : Bool) → ((x && y) && z) ≡ (x && (y && z))
together true y z = refl
together false y z = refl

-- those of the warning's lines after the given cell's, in order, are any list of them in order
pub air_listed : (t : Table) → IsStrictlySortedBy warning_slot_cmp (keys_of t.lines) → (b w s : ℕ) (after : Option Cell) (cells : List Cell) → AreOnAir t b w s after cells → on_air_cells s (own_after b w after t.lines) ≡ cells
air_listed t o b w s after cells list =
    ap (map (λ e. e.0.cell)) (filter_twice (λ e. is_slot_for b w e.0 && is_after after e.0.cell) (λ e. is_on_air_in s e.1) (λ e. is_slot_for b w e.0 && passes e.0.cell e.1) (λ e. together (is_slot_for b w e.0) (is_after after e.0.cell) (is_on_air_in s e.1)) t.lines)
    ∙ same_ascending cell_eq cell_lt cell_decides not_before_itself cell_lt_follows (kept_cells b w passes t.lines) cells (kept_ascend b w passes t.lines o) list.ascending
    (λ c. kept_have b w passes c (ap (λ x. is_after after c && x) (blank_off_air s) ∙ and_right (is_after after c) false refl) t.lines o ∙ sym (list.exact c))
  where
    passes : Cell → Line → Bool
    passes c line = is_after after c && is_on_air_in s line

both_few : {A : Type 0} (p q : A → Bool) (xs : List A) → length (filter (λ x. p x && q x) xs) ≤ length (filter p xs)
both_few p q [] = omega arith
both_few {A} p q (x ∷ xs) = step (p x) (q x) (both_few p q xs)
  where
    step : (t u : Bool) → length (filter (λ y. p y && q y) xs) ≤ length (filter p xs) → length (if t && u then x ∷ filter (λ y. p y && q y) xs else filter (λ y. p y && q y) xs) ≤ length (if t then x ∷ filter p xs else filter p xs)
    step true true h = omega (arith, h)
    step true false h = omega (arith, h)
    step false u h = h

-- they are no more than the warning's lines at the BSC
pub after_few : (b w : ℕ) (after : Option Cell) (es : List (Slot × Line)) → length (own_after b w after es) ≤ length (filter (λ e. is_slot_for b w e.0) es)
after_few b w after es = both_few (λ e. is_slot_for b w e.0) (λ e. is_after after e.0.cell) es
