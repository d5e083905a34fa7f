-- The lines of a warning at a BSC, by their cells: each cell's at its own line, in ascending order.
use Rattle.std.proofs.Common.{◌≡◌, ℕ, ◌+◌, ◌≤◌, Bool, true, false, cond, ◌&&◌, ◌||◌, not, nat_eq, List, [], ◌∷◌, Some, None, length, map, filter, if◌then◌else◌, refl, sym, ◌∙◌, ap, arith, Less}
use Rattle.std.proofs.lemmas.Bool.{and_parts, and_from, and_right, not-true, false_from_ne_true}
use Rattle.std.proofs.lemmas.List.{length-map}
use Rattle.std.proofs.lemmas.Map.Keys.{sorted_head, sorted_tail}
use Rattle.std.specs.List.{list_any, list_all, AllByRecursion}
use Rattle.std.specs.List.Sorted.{IsStrictlySortedBy}
use Rattle.std.specs.Map.{keys_of, lookup}
use Rattle.std.specs.Option.{unwrap_or}
use Rattle.std.specs.declared.cmp.Ordering.{Ordering}
use Rattle.common.specs.Cell.{cell_eq, cell_lt}
use Rattle.common.specs.Equality.{cell_decides}
use Rattle.common.specs.OnceLaws.{DecidesAll, any_turned, any_without_key, ascending_once}
use Rattle.common.specs.Order.{is_ascending, each_once}
use Rattle.common.specs.OrderLaws.{length_filter}
use Rattle.common.specs.declared.cell.Cell.{Cell}
use Rattle.mirror.proofs.KeyLemmas.{before_cell_of, other_slot, cell_apart}
use Rattle.mirror.specs.Blank.{is_blank}
use Rattle.mirror.specs.BlankLaws.{blank_decides}
use Rattle.mirror.specs.Line.{blank_line}
use Rattle.mirror.specs.OnAir.{is_slot_for}
use Rattle.mirror.specs.Order.{Slot, warning_slot_cmp}
use Rattle.mirror.specs.Table.{is_slot}
use Rattle.mirror.specs.declared.line.Line.{Line}

-- The cells of those lines of a warning that pass a test.

abbrev pub kept_cells : ℕ → ℕ → (Cell → Line → Bool) → List (Slot × Line) → List Cell
kept_cells b w q es = map (λ e. e.0.cell) (filter (λ e. is_slot_for b w e.0 && q e.0.cell e.1) es)

-- a line's cell comes before those of the lines after it
kept_before : (b w : ℕ) (q : Cell → Line → Bool) (s : Slot) → is_slot_for b w s ≡ true → (es : List (Slot × Line)) → AllByRecursion (λ t. warning_slot_cmp s t ≡ Less) (keys_of es) → list_all (cell_lt s.cell) (kept_cells b w q es) ≡ true
kept_before b w q s h [] l = refl
kept_before b w q s h (e ∷ es) l = step (is_slot_for b w e.0) refl (q e.0.cell e.1) (kept_before b w q s h es l.1)
  where
    step : (t : Bool) → is_slot_for b w e.0 ≡ t → (u : Bool) → list_all (cell_lt s.cell) (kept_cells b w q es) ≡ true → list_all (cell_lt s.cell) (map (λ (x : Slot × Line). x.0.cell) (if t && u then e ∷ filter (λ x. is_slot_for b w x.0 && q x.0.cell x.1) es else filter (λ x. is_slot_for b w x.0 && q x.0.cell x.1) es)) ≡ true
    step true g true rest = and_from (cell_lt s.cell e.0.cell) (list_all (cell_lt s.cell) (kept_cells b w q es)) (before_cell_of b w s e.0 h g l.0) rest
    step true g false rest = rest
    step false g u rest = rest

-- they ascend
pub kept_ascend : (b w : ℕ) (q : Cell → Line → Bool) (es : List (Slot × Line)) → IsStrictlySortedBy warning_slot_cmp (keys_of es) → is_ascending cell_lt (kept_cells b w q es) ≡ true
kept_ascend b w q [] o = refl
kept_ascend b w q (e ∷ es) o = step (is_slot_for b w e.0) refl (q e.0.cell e.1) (kept_ascend b w q es (sorted_tail warning_slot_cmp e.0 (keys_of es) o))
  where
    step : (t : Bool) → is_slot_for b w e.0 ≡ t → (u : Bool) → is_ascending cell_lt (kept_cells b w q es) ≡ true → is_ascending cell_lt (map (λ (x : Slot × Line). x.0.cell) (if t && u then e ∷ filter (λ x. is_slot_for b w x.0 && q x.0.cell x.1) es else filter (λ x. is_slot_for b w x.0 && q x.0.cell x.1) es)) ≡ true
    step true h true rest =
        and_from (list_all (cell_lt e.0.cell) (kept_cells b w q es)) (is_ascending cell_lt (kept_cells b w q es)) (kept_before b w q e.0 h es (sorted_head warning_slot_cmp e.0 (keys_of es) o)) rest
    step true h false rest = rest
    step false h u rest = rest

-- where what comes after a slot is another's, it is not among the entries after it
pub none_later : {X : Type 0} (cmp : Slot → Slot → Ordering) (b : ℕ) (c : Cell) (w : ℕ) (s : Slot) → ((t : Slot) → cmp s t ≡ Less → is_slot b c w t ≡ false) → (es : List (Slot × X)) → AllByRecursion (λ t. cmp s t ≡ Less) (keys_of es) → lookup (is_slot b c w) es ≡ None
none_later cmp b c w s other [] l = refl
none_later cmp b c w s other (e ∷ es) l =
    ap (λ t. cond t (Some e.1) (lookup (is_slot b c w) es)) (other e.0 l.0) ∙ none_later cmp b c w s other es l.1

-- of what a test keeps, a cell is one where it is the first's and that is kept, or is of the others
any_kept : {A : Type 0} (keep : A → Bool) (cell : A → Cell) (c : Cell) (x : A) (xs : List A) → list_any (cell_eq c) (map cell (filter keep (x ∷ xs))) ≡ ((keep x && cell_eq c (cell x)) || list_any (cell_eq c) (map cell (filter keep xs)))
any_kept keep cell c x xs = step (keep x)
  where
    step : (t : Bool) → list_any (cell_eq c) (map cell (if t then x ∷ filter keep xs else filter keep xs)) ≡ ((t && cell_eq c (cell x)) || list_any (cell_eq c) (map cell (filter keep xs)))
    step true = refl
    step false = refl

in_turn : (x z u p q : Bool) → (u ≡ true → p ≡ q) → (((x && z) && p) && u) ≡ ((x && (u && z)) && q)
in_turn false z u p q f = refl
in_turn true false true p q f = refl
in_turn true false false p q f = refl
in_turn true true false p q f = and_right p false refl
in_turn true true true true q f = f refl
in_turn true true true false q f = f refl

-- a cell is one of them where its own line passes
pub kept_have : (b w : ℕ) (q : Cell → Line → Bool) (c : Cell) → q c blank_line ≡ false → (es : List (Slot × Line)) → IsStrictlySortedBy warning_slot_cmp (keys_of es) → list_any (cell_eq c) (kept_cells b w q es) ≡ q c (unwrap_or (lookup (is_slot b c w) es) blank_line)
kept_have b w q c h [] o = sym h
kept_have b w q c h (e ∷ es) o =
    any_kept (λ (x : Slot × Line). is_slot_for b w x.0 && q x.0.cell x.1) (λ x. x.0.cell) c e es
    ∙ ap (λ t. t || list_any (cell_eq c) (kept_cells b w q es)) (in_turn (nat_eq b e.0.bsc) (nat_eq w e.0.warning) (cell_eq c e.0.cell) (q e.0.cell e.1) (q c e.1) (λ u. ap (λ d. q d e.1) (sym ((cell_decides c e.0.cell).0 u))))
    ∙ ap (λ t. (is_slot b c w e.0 && q c e.1) || t) (kept_have b w q c h es (sorted_tail warning_slot_cmp e.0 (keys_of es) o))
    ∙ step (is_slot b c w e.0) refl
  where
    alone : (t : Bool) → (t || false) ≡ t
    alone true = refl
    alone false = refl

    step : (t : Bool) → is_slot b c w e.0 ≡ t → ((t && q c e.1) || q c (unwrap_or (lookup (is_slot b c w) es) blank_line)) ≡ q c (unwrap_or (cond t (Some e.1) (lookup (is_slot b c w) es)) blank_line)
    step true g =
        ap (λ found. q c e.1 || q c (unwrap_or found blank_line)) (none_later warning_slot_cmp b c w e.0 (λ t. other_slot b c w e.0 t g) es (sorted_head warning_slot_cmp e.0 (keys_of es) o)) ∙ ap (λ t. q c e.1 || t) h ∙ alone (q c e.1)
    step false g = refl

-- How many lines of a warning there are.

kept_all : {A : Type 0} (p q : A → Bool) (xs : List A) → list_all q xs ≡ true → filter (λ x. p x && q x) xs ≡ filter p xs
kept_all p q [] h = refl
kept_all {A} p q (x ∷ xs) h = step (p x) ∙ ap (λ ys. if p x then x ∷ ys else ys) (kept_all p q xs parts.1)
  where
    parts : (q x ≡ true) × (list_all q xs ≡ true)
    parts = and_parts (q x) (list_all q xs) h

    step : (t : Bool) → (if t && q x then x ∷ filter (λ y. p y && q y) xs else filter (λ y. p y && q y) xs) ≡ (if t then x ∷ filter (λ y. p y && q y) xs else filter (λ y. p y && q y) xs)
    step true = ap (λ u. if u then x ∷ filter (λ y. p y && q y) xs else filter (λ y. p y && q y) xs) parts.0
    step false = refl

-- without those that pass there are fewer, where one passes
one_fewer : {A : Type 0} (test : A → Bool) (ys : List A) → list_any test ys ≡ true → length (filter (λ y. not (test y)) ys) + 1 ≤ length ys
one_fewer test [] h = cc
one_fewer {A} test (y ∷ ys) h = step (test y) (one_fewer test ys) h
  where
    most : (zs : List A) → length (filter (λ z. not (test z)) zs) ≤ length zs
    most zs = length_filter (λ z. not (test z)) zs

    step : (t : Bool) → (list_any test ys ≡ true → length (filter (λ z. not (test z)) ys) + 1 ≤ length ys) → (t || list_any test ys) ≡ true → length (if not t then y ∷ filter (λ z. not (test z)) ys else filter (λ z. not (test z)) ys) + 1 ≤ length (y ∷ ys)
    step true rest g = let few = most ys in omega arith
    step false rest g = let few = rest g in omega arith

-- a list in which nothing stands twice is no longer than one that has all of it
pub once_few : {A : Type 0} (same : A → A → Bool) → DecidesAll same → (xs ys : List A) → each_once same xs ≡ true → ((z : A) → list_any (λ x. same x z) xs ≡ true → list_any (λ y. same y z) ys ≡ true) → length xs ≤ length ys
once_few same d [] ys once all = omega arith
once_few {A} same d (x ∷ xs) ys once all =
    let shorter = one_fewer (λ y. same y x) ys (all x (ap (λ t. t || list_any (λ y. same y x) xs) ((d x x).1 refl))) in
    let rest = once_few same d xs (filter (λ y. not (same y x)) ys) parts.1 others in
    omega arith
  where
    parts : (not (list_any (same x) xs) ≡ true) × (each_once same xs ≡ true)
    parts = and_parts (not (list_any (same x) xs)) (each_once same xs) once

    apart : (z : A) → list_any (λ y. same y z) xs ≡ true → same x z ≡ false
    apart z h =
        false_from_ne_true (same x z)
        (λ e. let no : false ≡ true = sym (not-true (list_any (same x) xs) parts.0) ∙ any_turned same d x xs ∙ ap (λ k. list_any (λ y. same y k) xs) ((d x z).0 e) ∙ h in cc)

    others : (z : A) → list_any (λ y. same y z) xs ≡ true → list_any (λ y. same y z) (filter (λ y. not (same y x)) ys) ≡ true
    others z h =
        any_without_key same d (λ (y : A). y) x z ys ∙ ap (λ t. not t && list_any (λ y. same y z) ys) (apart z h) ∙ all z (ap (λ t. t || list_any (λ y. same y z) xs) (apart z h) ∙ h)

-- there are no more lines of a warning than cells in which its line isn't blank
pub lines_few : (es : List (Slot × Line)) → IsStrictlySortedBy warning_slot_cmp (keys_of es) → list_all (λ e. not (is_blank e.1)) es ≡ true → (b w : ℕ) (cells : List Cell) → ((c : Cell) → is_blank (unwrap_or (lookup (is_slot b c w) es) blank_line) ≡ false → list_any (cell_eq c) cells ≡ true) → length (filter (λ e. is_slot_for b w e.0) es) ≤ length cells
lines_few es o none_blank b w cells all =
    let few = once_few cell_eq cell_decides there cells (ascending_once cell_eq cell_lt cell_apart there (kept_ascend b w says es o)) among in
    let long : length there ≡ length (filter (λ e. is_slot_for b w e.0) es) = length-map (filter (λ e. is_slot_for b w e.0 && says e.0.cell e.1) es) (λ e. e.0.cell) ∙ ap length (kept_all (λ e. is_slot_for b w e.0) (λ e. not (is_blank e.1)) es none_blank) in
    omega arith
  where
    says : Cell → Line → Bool
    says c line = not (is_blank line)

    there : List Cell
    there = kept_cells b w says es

    among : (c : Cell) → list_any (λ d. cell_eq d c) there ≡ true → list_any (λ d. cell_eq d c) cells ≡ true
    among c h =
        let line : not (is_blank (unwrap_or (lookup (is_slot b c w) es) blank_line)) ≡ true = sym (kept_have b w says c (ap not ((blank_decides blank_line).1 refl)) es o) ∙ any_turned cell_eq cell_decides c there ∙ h in
        sym (any_turned cell_eq cell_decides c cells) ∙ all c (not-true (is_blank (unwrap_or (lookup (is_slot b c w) es) blank_line)) line)
