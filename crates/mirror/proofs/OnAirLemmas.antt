-- Which lines of a warning at a BSC stand after a cell's, and the cells of those in which a version is on air.
use Rattle.std.proofs.Common.{◌≡◌, ℕ, suc, ◌+◌, ◌-◌, ◌≤◌, ◌<◌, Bool, true, false, cond, ◌&&◌, List, [], ◌∷◌, ◌++◌, Option, Some, None, length, take, map, filter, if◌then◌else◌, refl, sym, ◌∙◌, ap, arith, Less, append_assoc, length-append}
use Rattle.std.proofs.lemmas.Bool.Decides.{nat_tests}
use Rattle.std.proofs.lemmas.Grind.{common_steps}
use Rattle.std.proofs.lemmas.List.Sums.{take_while-cons}
use Rattle.std.proofs.lemmas.Map.Keys.{sorted_head, sorted_tail}
use Rattle.std.specs.BTreeMap.Range.{entries_between, range_contains}
use Rattle.std.specs.List.{AllByRecursion}
use Rattle.std.specs.List.Sorted.{IsStrictlySortedBy}
use Rattle.std.specs.Map.{keys_of}
use Rattle.std.specs.declared.ops.Bound.{Bound}
use Rattle.std.specs.declared.ops.Bound.TheVariants.{Included, Excluded, Unbounded}
use Rattle.common.specs.declared.cell.Cell.{Cell}
use Rattle.mirror.specs.OnAir.{is_after, is_on_air_in, is_slot_for, lines_for, on_air_cells}
use Rattle.mirror.specs.Order.{Slot, slot_of, warning_slot_cmp}
use Rattle.mirror.specs.declared.line.Line.{Line}

-- what passes one test and then another passes both
pub filter_twice : {A : Type 0} (p q r : A → Bool) → ((x : A) → (p x && q x) ≡ r x) → (xs : List A) → filter q (filter p xs) ≡ filter r xs
filter_twice p q r e [] = refl
filter_twice {A} p q r e (x ∷ xs) = step (p x) (filter_twice p q r e xs) ∙ ap (λ t. if t then x ∷ filter r xs else filter r xs) (e x)
  where
    step : (t : Bool) → filter q (filter p xs) ≡ filter r xs → filter q (if t then x ∷ filter p xs else filter p xs) ≡ (if t && q x then x ∷ filter r xs else filter r xs)
    step true rest = ap (λ ys. if q x then x ∷ ys else ys) rest
    step false rest = rest

-- one line more of the BSC and the warning
pub line_more : (b w : ℕ) (e : Slot × Line) (rest : List (Slot × Line)) → is_slot_for b w e.0 ≡ true → lines_for b w (e ∷ rest) ≡ e ∷ lines_for b w rest
line_more b w e rest own = take_while-cons (λ x. is_slot_for b w x.0) e rest ∙ ap (λ t. cond t (e ∷ lines_for b w rest) []) own

-- one of another ends them
lines_ended : (b w : ℕ) (e : Slot × Line) (rest : List (Slot × Line)) → is_slot_for b w e.0 ≡ false → lines_for b w (e ∷ rest) ≡ []
lines_ended b w e rest other = take_while-cons (λ x. is_slot_for b w x.0) e rest ∙ ap (λ t. cond t (e ∷ lines_for b w rest) []) other

-- where the lines of the warning at the BSC after a cell's begin
abbrev pub first_slot : ℕ → ℕ → Option Cell → Bound Slot
first_slot b w None = Included (slot_of b (record { lac = 0; ci = 0 }) w)
first_slot b w (Some d) = Excluded (slot_of b d w)

abbrev is_begun : ℕ → ℕ → Option Cell → Slot → Bool
is_begun b w after s = range_contains warning_slot_cmp (first_slot b w after) Unbounded s

own_begun : (b w : ℕ) (after : Option Cell) (s : Slot) → is_slot_for b w s ≡ true → is_begun b w after s ≡ is_after after s.cell
own_begun b w None s h = grind (arith, nat_tests, common_steps)
own_begun b w (Some d) s h = grind (arith, nat_tests, common_steps)

other_after : (b w : ℕ) (after : Option Cell) (s t : Slot) → is_begun b w after s ≡ true → is_slot_for b w s ≡ false → warning_slot_cmp s t ≡ Less → is_slot_for b w t ≡ false
other_after b w None s t h g l = grind (arith, nat_tests, common_steps)
other_after b w (Some d) s t h g l = grind (arith, nat_tests, common_steps)

-- those of the lines that are the warning's at the BSC, of cells after the given one
abbrev pub own_after : ℕ → ℕ → Option Cell → List (Slot × Line) → List (Slot × Line)
own_after b w after es = filter (λ e. is_slot_for b w e.0 && is_after after e.0.cell) es

none_after : (b w : ℕ) (after : Option Cell) (s : Slot) → is_begun b w after s ≡ true → is_slot_for b w s ≡ false → (es : List (Slot × Line)) → AllByRecursion (λ t. warning_slot_cmp s t ≡ Less) (keys_of es) → own_after b w after es ≡ []
none_after b w after s h g [] l = refl
none_after b w after s h g (e ∷ es) l =
    ap (λ v. if v && is_after after e.0.cell then e ∷ own_after b w after es else own_after b w after es) (other_after b w after s e.0 h g l.0) ∙ none_after b w after s h g es l.1

-- from there on they come first
pub lines_later : (b w : ℕ) (after : Option Cell) (es : List (Slot × Line)) → IsStrictlySortedBy warning_slot_cmp (keys_of es) → lines_for b w (entries_between warning_slot_cmp (first_slot b w after) Unbounded es) ≡ own_after b w after es
lines_later b w after [] o = refl
lines_later b w after (e ∷ es) o =
    step (is_begun b w after e.0) refl (is_slot_for b w e.0) refl (lines_later b w after es (sorted_tail warning_slot_cmp e.0 (keys_of es) o))
  where
    begun : List (Slot × Line)
    begun = entries_between warning_slot_cmp (first_slot b w after) Unbounded es

    later : (t : Bool) → is_begun b w after e.0 ≡ t → is_slot_for b w e.0 ≡ true → t ≡ is_after after e.0.cell
    later t h g = sym h ∙ own_begun b w after e.0 g

    step : (t : Bool) → is_begun b w after e.0 ≡ t → (u : Bool) → is_slot_for b w e.0 ≡ u → lines_for b w begun ≡ own_after b w after es → lines_for b w (if t then e ∷ begun else begun) ≡ (if u && is_after after e.0.cell then e ∷ own_after b w after es else own_after b w after es)
    step true h true g rest =
        line_more b w e begun g ∙ ap (λ xs. e ∷ xs) rest ∙ ap (λ v. if v then e ∷ own_after b w after es else own_after b w after es) (later true h g)
    step false h true g rest = rest ∙ ap (λ v. if v then e ∷ own_after b w after es else own_after b w after es) (later false h g)
    step true h false g rest = lines_ended b w e begun g ∙ sym (none_after b w after e.0 h g es (sorted_head warning_slot_cmp e.0 (keys_of es) o))
    step false h false g rest = rest

air_more : (v : ℕ) (e : Slot × Line) (rest : List (Slot × Line)) → is_on_air_in v e.1 ≡ true → on_air_cells v (e ∷ rest) ≡ e.0.cell ∷ on_air_cells v rest
air_more v e rest air =
    ap (λ t. map (λ (x : Slot × Line). x.0.cell) (if t then e ∷ filter (λ (x : Slot × Line). is_on_air_in v x.1) rest else filter (λ (x : Slot × Line). is_on_air_in v x.1) rest)) air

air_passed : (v : ℕ) (e : Slot × Line) (rest : List (Slot × Line)) → is_on_air_in v e.1 ≡ false → on_air_cells v (e ∷ rest) ≡ on_air_cells v rest
air_passed v e rest air =
    ap (λ t. map (λ (x : Slot × Line). x.0.cell) (if t then e ∷ filter (λ (x : Slot × Line). is_on_air_in v x.1) rest else filter (λ (x : Slot × Line). is_on_air_in v x.1) rest)) air

-- the line that comes is one more that is counted
pub next_counted : (b w : ℕ) (e : Slot × Line) (rest es : List (Slot × Line)) → es ≡ e ∷ rest → is_slot_for b w e.0 ≡ true → length (lines_for b w es) ≡ length (lines_for b w rest) + 1
next_counted b w e rest es came own =
    let more : length (lines_for b w es) ≡ length (e ∷ lines_for b w rest) = ap (λ xs. length (lines_for b w xs)) came ∙ ap length (line_more b w e rest own) in
    omega arith

-- and of one cell more, where the version is on air in it
pub next_on_air : (b w v : ℕ) (e : Slot × Line) (rest es : List (Slot × Line)) → es ≡ e ∷ rest → is_slot_for b w e.0 ≡ true → is_on_air_in v e.1 ≡ true → on_air_cells v (lines_for b w es) ≡ e.0.cell ∷ on_air_cells v (lines_for b w rest)
next_on_air b w v e rest es came own air =
    ap (λ xs. on_air_cells v (lines_for b w xs)) came ∙ ap (on_air_cells v) (line_more b w e rest own) ∙ air_more v e (lines_for b w rest) air

pub next_off_air : (b w v : ℕ) (e : Slot × Line) (rest es : List (Slot × Line)) → es ≡ e ∷ rest → is_slot_for b w e.0 ≡ true → is_on_air_in v e.1 ≡ false → on_air_cells v (lines_for b w es) ≡ on_air_cells v (lines_for b w rest)
next_off_air b w v e rest es came own air =
    ap (λ xs. on_air_cells v (lines_for b w xs)) came ∙ ap (on_air_cells v) (line_more b w e rest own) ∙ air_passed v e (lines_for b w rest) air

take_one : {A : Type 0} (m n : ℕ) (c : A) (cs : List A) → n < m → take (m - n) (c ∷ cs) ≡ c ∷ take (m - (n + 1)) cs
take_one m n c cs h =
    let e : m - n ≡ suc (m - (n + 1)) = omega arith in
    ap (λ k. take k (c ∷ cs)) e

-- one cell more
pub cells_more : (most : ℕ) (c : Cell) (cells rest : List Cell) → length cells < most → (cells ++ c ∷ []) ++ take (most - length (cells ++ c ∷ [])) rest ≡ cells ++ take (most - length cells) (c ∷ rest)
cells_more most c cells rest few =
    append_assoc cells (c ∷ []) (take (most - length (cells ++ c ∷ [])) rest)
    ∙ ap (λ k. cells ++ c ∷ take (most - k) rest) (length-append cells (c ∷ []))
    ∙ ap (λ cs. cells ++ cs) (sym (take_one most (length cells) c rest few))

-- where there is room and one is to come, there is one
pub one_there : (most : ℕ) (c : Cell) (cells rest : List Cell) → length cells < most → 1 ≤ length (cells ++ take (most - length cells) (c ∷ rest))
one_there most c cells rest few =
    let some : length (cells ++ take (most - length cells) (c ∷ rest)) ≡ length (cells ++ c ∷ take (most - (length cells + 1)) rest) = ap (λ xs. length (cells ++ xs)) (take_one most (length cells) c rest few) in
    let long = length-append cells (c ∷ take (most - (length cells + 1)) rest) in
    omega arith
