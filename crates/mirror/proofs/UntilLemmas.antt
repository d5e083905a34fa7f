-- How many lines are read until so many cells are found.
use Rattle.std.proofs.Common.{◌≡◌, ℕ, zero, suc, ◌+◌, ◌-◌, ◌^◌, ◌<◌, ◌≤◌, min, Bool, true, false, not, ◌&&◌, ◌||◌, ltb, List, [], ◌∷◌, ◌++◌, Option, length, take, map, filter, if◌then◌else◌, refl, sym, ◌∙◌, ap, arith, length-append}
use Rattle.std.proofs.lemmas.Bool.{and_parts, and_from}
use Rattle.std.proofs.lemmas.Bool.Decides.{nat_tests}
use Rattle.std.proofs.lemmas.Grind.{common_steps}
use Rattle.std.specs.List.{list_all}
use Rattle.std.specs.List.Sorted.{IsStrictlySortedBy}
use Rattle.std.specs.Map.{keys_of}
use Rattle.common.specs.Cell.{cell_lt}
use Rattle.common.specs.Order.{is_ascending}
use Rattle.common.specs.declared.cell.Cell.{Cell}
use Rattle.mirror.proofs.CountLemmas.{kept_ascend}
use Rattle.mirror.proofs.KeyLemmas.{not_before_itself}
use Rattle.mirror.proofs.OnAirLemmas.{filter_twice, line_more, own_after}
use Rattle.mirror.specs.OnAir.{is_after, is_on_air_in, is_slot_for, is_up_to, lines_for, on_air_cells, read_count, until_found}
use Rattle.mirror.specs.Order.{Slot, warning_slot_cmp}
use Rattle.mirror.specs.Table.{Table, counted_all}
use Rattle.mirror.specs.declared.line.Line.{Line}

-- Counting one line after another.

pub all_after_one : (k m : ℕ) → counted_all k (min (m + 1) (2 ^ 64 - 1)) ≡ counted_all (k + 1) m
all_after_one k m = omega arith

pub told_few : (k m more n : ℕ) → more ≡ counted_all k m → k ≤ n → more ≤ m + n
told_few k m more n is few = omega arith

-- The lines to come, after one of them.

until_on : (s more : ℕ) (e : Slot × Line) (es : List (Slot × Line)) → is_on_air_in s e.1 ≡ true → until_found s (suc more) (e ∷ es) ≡ e ∷ until_found s more es
until_on s more e es air = ap (λ t. e ∷ until_found s (if t then more else suc more) es) air

until_off : (s more : ℕ) (e : Slot × Line) (es : List (Slot × Line)) → is_on_air_in s e.1 ≡ false → until_found s (suc more) (e ∷ es) ≡ e ∷ until_found s (suc more) es
until_off s more e es air = ap (λ t. e ∷ until_found s (if t then more else suc more) es) air

-- where the version is on air in the line that comes, one cell less is to be found after it
pub next_until_on : (b w s most n : ℕ) (e : Slot × Line) (rest es : List (Slot × Line)) → es ≡ e ∷ rest → is_slot_for b w e.0 ≡ true → is_on_air_in s e.1 ≡ true → n < most → length (until_found s (most - n) (lines_for b w es)) ≡ length (until_found s (most - (n + 1)) (lines_for b w rest)) + 1
next_until_on b w s most n e rest es came own air few =
    let next : most - n ≡ suc (most - (n + 1)) = omega arith in
    let all : length (until_found s (most - n) (lines_for b w es)) ≡ length (e ∷ until_found s (most - (n + 1)) (lines_for b w rest)) = ap (λ xs. length (until_found s (most - n) (lines_for b w xs))) came ∙ ap (λ xs. length (until_found s (most - n) xs)) (line_more b w e rest own) ∙ ap (λ k. length (until_found s k (e ∷ lines_for b w rest))) next ∙ ap length (until_on s (most - (n + 1)) e (lines_for b w rest) air) in
    omega arith

pub next_until_off : (b w s most n : ℕ) (e : Slot × Line) (rest es : List (Slot × Line)) → es ≡ e ∷ rest → is_slot_for b w e.0 ≡ true → is_on_air_in s e.1 ≡ false → n < most → length (until_found s (most - n) (lines_for b w es)) ≡ length (until_found s (most - n) (lines_for b w rest)) + 1
next_until_off b w s most n e rest es came own air few =
    let next : most - n ≡ suc (most - (n + 1)) = omega arith in
    let all : length (until_found s (most - n) (lines_for b w es)) ≡ length (e ∷ until_found s (suc (most - (n + 1))) (lines_for b w rest)) = ap (λ xs. length (until_found s (most - n) (lines_for b w xs))) came ∙ ap (λ xs. length (until_found s (most - n) xs)) (line_more b w e rest own) ∙ ap (λ k. length (until_found s k (e ∷ lines_for b w rest))) next ∙ ap length (until_off s (most - (n + 1)) e (lines_for b w rest) air) in
    let same : length (until_found s (suc (most - (n + 1))) (lines_for b w rest)) ≡ length (until_found s (most - n) (lines_for b w rest)) = ap (λ k. length (until_found s k (lines_for b w rest))) (sym next) in
    omega arith

-- the line is counted: with those to come, it is one of all
pub counted_on : (b w s most : ℕ) (cells : List Cell) (c : Cell) (e : Slot × Line) (rest es : List (Slot × Line)) → es ≡ e ∷ rest → is_slot_for b w e.0 ≡ true → is_on_air_in s e.1 ≡ true → length cells < most → (m more all : ℕ) → more ≡ min (m + 1) (2 ^ 64 - 1) → counted_all (length (until_found s (most - length cells) (lines_for b w es))) m ≡ all → counted_all (length (until_found s (most - length (cells ++ c ∷ [])) (lines_for b w rest))) more ≡ all
counted_on b w s most cells c e rest es came own air few m more all is h =
    ap (λ k. counted_all (length (until_found s (most - k) (lines_for b w rest))) more) (length-append cells (c ∷ []))
    ∙ ap (counted_all (length (until_found s (most - (length cells + 1)) (lines_for b w rest)))) is
    ∙ all_after_one (length (until_found s (most - (length cells + 1)) (lines_for b w rest))) m
    ∙ ap (λ k. counted_all k m) (sym (next_until_on b w s most (length cells) e rest es came own air few))
    ∙ h

pub counted_off : (b w s most : ℕ) (cells : List Cell) (e : Slot × Line) (rest es : List (Slot × Line)) → es ≡ e ∷ rest → is_slot_for b w e.0 ≡ true → is_on_air_in s e.1 ≡ false → length cells < most → (m more all : ℕ) → more ≡ min (m + 1) (2 ^ 64 - 1) → counted_all (length (until_found s (most - length cells) (lines_for b w es))) m ≡ all → counted_all (length (until_found s (most - length cells) (lines_for b w rest))) more ≡ all
counted_off b w s most cells e rest es came own air few m more all is h =
    ap (counted_all (length (until_found s (most - length cells) (lines_for b w rest)))) is
    ∙ all_after_one (length (until_found s (most - length cells) (lines_for b w rest))) m
    ∙ ap (λ k. counted_all k m) (sym (next_until_off b w s most (length cells) e rest es came own air few))
    ∙ h

-- The lines read, by the cells that are found.

-- the line is one that is read where these cells are found, at most so many
abbrev pub reads : ℕ → List Cell → Slot × Line → Bool
reads most cells e = ltb (length cells) most || is_up_to cells e.0.cell

none_kept : {A : Type 0} (xs : List A) → filter (λ x. false) xs ≡ []
none_kept [] = refl
none_kept (x ∷ xs) = none_kept xs

first_kept : {A : Type 0} (p : A → Bool) (x : A) (xs : List A) → p x ≡ true → filter p (x ∷ xs) ≡ x ∷ filter p xs
first_kept p x xs h = ap (λ t. if t then x ∷ filter p xs else filter p xs) h

one_each : (n m : ℕ) → ltb (suc n) (suc m) ≡ ltb n m
one_each n m = grind (arith, nat_tests)

-- of lines after a cell that was found, those are read that are read where one fewer is asked for
later_read : (d : Cell) (more : ℕ) (cells : List Cell) (es : List (Slot × Line)) → list_all (cell_lt d) (map (λ (e : Slot × Line). e.0.cell) es) ≡ true → filter (reads (suc more) (d ∷ cells)) es ≡ filter (reads more cells) es
later_read d more cells [] h = refl
later_read d more cells (e ∷ es) h =
    ap (λ t. if t then e ∷ filter (reads (suc more) (d ∷ cells)) es else filter (reads (suc more) (d ∷ cells)) es) same
    ∙ ap (λ xs. if reads more cells e then e ∷ xs else xs) (later_read d more cells es parts.1)
  where
    parts : (cell_lt d e.0.cell ≡ true) × (list_all (cell_lt d) (map (λ (x : Slot × Line). x.0.cell) es) ≡ true)
    parts = and_parts (cell_lt d e.0.cell) (list_all (cell_lt d) (map (λ (x : Slot × Line). x.0.cell) es)) h

    same : reads (suc more) (d ∷ cells) e ≡ reads more cells e
    same = ap (λ t. ltb (suc (length cells)) (suc more) || (not t || is_up_to cells e.0.cell)) parts.0 ∙ ap (λ t. t || is_up_to cells e.0.cell) (one_each (length cells) more)

either : (t u : Bool) → (t || (true || u)) ≡ true
either true u = refl
either false u = refl

-- a line of a cell that is found is read
own_read : (more : ℕ) (e : Slot × Line) (cells : List Cell) → reads (suc more) (e.0.cell ∷ cells) e ≡ true
own_read more e cells =
    ap (λ t. ltb (suc (length cells)) (suc more) || (not t || is_up_to cells e.0.cell)) (not_before_itself e.0.cell) ∙ either (ltb (suc (length cells)) (suc more)) (is_up_to cells e.0.cell)

not_before : (c d : Cell) → cell_lt c d ≡ true → cell_lt d c ≡ false
not_before c d h = grind (arith, nat_tests, common_steps)

none_below : (m : ℕ) → ltb 0 (suc m) ≡ true
none_below m = grind (arith, nat_tests)

-- and one before all cells that are found, where some are to be found
passed_read : (more : ℕ) (e : Slot × Line) (cells : List Cell) → list_all (cell_lt e.0.cell) cells ≡ true → reads (suc more) cells e ≡ true
passed_read more e [] h = ap (λ t. t || is_up_to [] e.0.cell) (none_below more)
passed_read more e (d ∷ ds) h =
    let parts = and_parts (cell_lt e.0.cell d) (list_all (cell_lt e.0.cell) ds) h in
    ap (λ t. ltb (length (d ∷ ds)) (suc more) || (not t || is_up_to ds e.0.cell)) (not_before e.0.cell d parts.0) ∙ either (ltb (length (d ∷ ds)) (suc more)) (is_up_to ds e.0.cell)

all_first : {A : Type 0} (p : A → Bool) (n : ℕ) (xs : List A) → list_all p xs ≡ true → list_all p (take n xs) ≡ true
all_first p zero xs h = refl
all_first p (suc n) [] h = refl
all_first p (suc n) (x ∷ xs) h =
    let parts = and_parts (p x) (list_all p xs) h in
    and_from (p x) (list_all p (take n xs)) parts.0 (all_first p n xs parts.1)

all_on_air : (p : Cell → Bool) (s : ℕ) (es : List (Slot × Line)) → list_all p (map (λ (e : Slot × Line). e.0.cell) es) ≡ true → list_all p (on_air_cells s es) ≡ true
all_on_air p s [] h = refl
all_on_air p s (e ∷ es) h = step (is_on_air_in s e.1) (all_on_air p s es parts.1)
  where
    parts : (p e.0.cell ≡ true) × (list_all p (map (λ (x : Slot × Line). x.0.cell) es) ≡ true)
    parts = and_parts (p e.0.cell) (list_all p (map (λ (x : Slot × Line). x.0.cell) es)) h

    step : (t : Bool) → list_all p (on_air_cells s es) ≡ true → list_all p (map (λ (x : Slot × Line). x.0.cell) (if t then e ∷ filter (λ (x : Slot × Line). is_on_air_in s x.1) es else filter (λ (x : Slot × Line). is_on_air_in s x.1) es)) ≡ true
    step true rest = and_from (p e.0.cell) (list_all p (on_air_cells s es)) parts.0 rest
    step false rest = rest

-- of lines in order, the first up to the last cell that is found are those that are read
until_reads : (s : ℕ) (es : List (Slot × Line)) → is_ascending cell_lt (map (λ (e : Slot × Line). e.0.cell) es) ≡ true → (most : ℕ) → until_found s most es ≡ filter (reads most (take most (on_air_cells s es))) es
until_reads s [] o most = refl
until_reads s (e ∷ es) o zero = sym (none_kept (e ∷ es))
until_reads s (e ∷ es) o (suc more) =
    let parts = and_parts (list_all (cell_lt e.0.cell) (map (λ (x : Slot × Line). x.0.cell) es)) (is_ascending cell_lt (map (λ (x : Slot × Line). x.0.cell) es)) o in
    step (is_on_air_in s e.1) parts.0 (until_reads s es parts.1 more) (until_reads s es parts.1 (suc more))
  where
    step : (t : Bool) → list_all (cell_lt e.0.cell) (map (λ (x : Slot × Line). x.0.cell) es) ≡ true → until_found s more es ≡ filter (reads more (take more (on_air_cells s es))) es → until_found s (suc more) es ≡ filter (reads (suc more) (take (suc more) (on_air_cells s es))) es → (e ∷ until_found s (if t then more else suc more) es) ≡ filter (reads (suc more) (take (suc more) (map (λ (x : Slot × Line). x.0.cell) (if t then e ∷ filter (λ (x : Slot × Line). is_on_air_in s x.1) es else filter (λ (x : Slot × Line). is_on_air_in s x.1) es)))) (e ∷ es)
    step true later fewer same =
        let cells = take more (on_air_cells s es) in
        ap (λ xs. e ∷ xs) (fewer ∙ sym (later_read e.0.cell more cells es later))
        ∙ sym (first_kept (reads (suc more) (e.0.cell ∷ cells)) e es (own_read more e cells))
    step false later fewer same =
        let cells = take (suc more) (on_air_cells s es) in
        ap (λ xs. e ∷ xs) same
        ∙ sym (first_kept (reads (suc more) cells) e es (passed_read more e cells (all_first (cell_lt e.0.cell) (suc more) (on_air_cells s es) (all_on_air (cell_lt e.0.cell) s es later))))

together : (x y z : Bool) → ((x && y) && z) ≡ (x && (y && z))
together true y z = refl
together false y z = refl

-- of the warning's lines at the BSC after a cell, in order
pub until_counted : (t : Table) → IsStrictlySortedBy warning_slot_cmp (keys_of t.lines) → (b w s : ℕ) (after : Option Cell) (most : ℕ) (cells : List Cell) → cells ≡ take most (on_air_cells s (own_after b w after t.lines)) → length (until_found s most (own_after b w after t.lines)) ≡ read_count t b w after most cells
until_counted t o b w s after most cells is =
    ap length (until_reads s (own_after b w after t.lines) (kept_ascend b w (λ c line. is_after after c) t.lines o) most)
    ∙ ap (λ cs. length (filter (reads most cs) (own_after b w after t.lines))) (sym is)
    ∙ ap length (filter_twice (λ e. is_slot_for b w e.0 && is_after after e.0.cell) (reads most cells) (λ e. is_slot_for b w e.0 && (is_after after e.0.cell && reads most cells e)) (λ e. together (is_slot_for b w e.0) (is_after after e.0.cell) (reads most cells e)) t.lines)
