-- The entries and the lines of one cell of a BSC, in the order of their warnings.
use Rattle.std.proofs.Common.{◌≡◌, ℕ, ◌≤◌, Bool, true, false, cond, ◌&&◌, ◌||◌, not, nat_eq, ltb, List, [], ◌∷◌, Option, Some, None, length, map, filter, if◌then◌else◌, refl, sym, ◌∙◌, ap, arith, Less}
use Rattle.std.proofs.lemmas.Bool.{and_parts, and_from, not-true}
use Rattle.std.proofs.lemmas.Bool.Decides.{nat_tests}
use Rattle.std.proofs.lemmas.Grind.{common_steps}
use Rattle.std.proofs.lemmas.List.Kept.{IsStrictlySortedBy-filter}
use Rattle.std.proofs.lemmas.Map.Keys.{sorted_head, sorted_tail}
use Rattle.std.specs.BTreeMap.Range.{range_contains}
use Rattle.std.specs.List.{list_any, list_all, AllByRecursion}
use Rattle.std.specs.List.Sorted.{IsStrictlySortedBy}
use Rattle.std.specs.Map.{keys_of, lookup}
use Rattle.std.specs.Option.{unwrap_or}
use Rattle.std.specs.declared.ops.Bound.TheVariants.{Included, Unbounded}
use Rattle.std.specs.Cmp.{unsigned_Decides}
use Rattle.common.specs.Cell.{cell_eq}
use Rattle.common.specs.OnceLaws.{any_turned, any_filter_same, ascending_once}
use Rattle.common.specs.OrderLaws.{ascending_filter, length_filter}
use Rattle.cell_register.specs.CellLaws.{ltb_follows}
use Rattle.common.specs.Order.{is_ascending}
use Rattle.common.specs.SortingLaws.{same_ascending}
use Rattle.common.specs.declared.cell.Cell.{Cell}
use Rattle.mirror.proofs.CountLemmas.{none_later, once_few}
use Rattle.mirror.proofs.KeyLemmas.{other_index_slot}
use Rattle.mirror.proofs.OnAirLemmas.{filter_twice}
use Rattle.mirror.proofs.OwnLemmas.{before_first, none_after}
use Rattle.mirror.proofs.TableLemmas.{Indexed}
use Rattle.mirror.specs.Blank.{is_blank}
use Rattle.mirror.specs.BlankLaws.{blank_decides}
use Rattle.mirror.specs.Held.{is_held_line}
use Rattle.mirror.specs.Index.{kept_warnings, line_in}
use Rattle.mirror.specs.Line.{blank_line}
use Rattle.mirror.specs.Order.{Slot, slot_cmp, warning_slot_cmp, slot_of}
use Rattle.mirror.specs.Table.{is_slot, is_slot_in}
use Rattle.mirror.specs.declared.line.Line.{Line}

-- the slot stands where those of the cell and of the BSC's later cells do
abbrev pub from_cell : ℕ → Cell → Slot → Bool
from_cell b c s = range_contains slot_cmp (Included (slot_of b c 0)) Unbounded s

-- entries from the cell's first on, in order
pub record FromCell (b : ℕ) (c : Cell) (es : List (Slot × Bool)) : Type 0 where
  pub ordered : IsStrictlySortedBy slot_cmp (keys_of es)
  pub within : list_all (λ e. from_cell b c e.0) es ≡ true

keys_kept : (p : Slot → Bool) (es : List (Slot × Bool)) → keys_of (filter (λ e. p e.0) es) ≡ filter p (keys_of es)
keys_kept p [] = refl
keys_kept p (e ∷ es) = step (p e.0) (keys_kept p es)
  where
    step : (t : Bool) → keys_of (filter (λ x. p x.0) es) ≡ filter p (keys_of es) → keys_of (if t then e ∷ filter (λ x. p x.0) es else filter (λ x. p x.0) es) ≡ (if t then e.0 ∷ filter p (keys_of es) else filter p (keys_of es))
    step true rest = ap (λ ks. e.0 ∷ ks) rest
    step false rest = rest

all_kept : {A : Type 0} (p : A → Bool) (xs : List A) → list_all p (filter p xs) ≡ true
all_kept p [] = refl
all_kept {A} p (x ∷ xs) = step (p x) refl (all_kept p xs)
  where
    step : (t : Bool) → p x ≡ t → list_all p (filter p xs) ≡ true → list_all p (if t then x ∷ filter p xs else filter p xs) ≡ true
    step true h rest = and_from (p x) (list_all p (filter p xs)) h rest
    step false h rest = rest

-- those of all entries are so
pub from_all : (b : ℕ) (c : Cell) (es : List (Slot × Bool)) → IsStrictlySortedBy slot_cmp (keys_of es) → FromCell b c (filter (λ e. from_cell b c e.0) es)
from_all b c es o = record {
  ordered = rw (keys_kept (from_cell b c) es) (IsStrictlySortedBy-filter slot_cmp (from_cell b c) (keys_of es) o);
  within = all_kept (λ e. from_cell b c e.0) es;
}

pub from_later : (b : ℕ) (c : Cell) (e : Slot × Bool) (es : List (Slot × Bool)) → FromCell b c (e ∷ es) → FromCell b c es
from_later b c e es h = record {
  ordered = sorted_tail slot_cmp e.0 (keys_of es) h.ordered;
  within = (and_parts (from_cell b c e.0) (list_all (λ x. from_cell b c x.0) es) h.within).1;
}

-- the cell's are among them
pub kept_among : (b : ℕ) (c : Cell) (q : Bool → Bool) (es : List (Slot × Bool)) → kept_warnings b c q (filter (λ e. from_cell b c e.0) es) ≡ kept_warnings b c q es
kept_among b c q es =
    ap (map (λ e. e.0.warning)) (filter_twice (λ e. from_cell b c e.0) (λ e. is_slot_in b c e.0 && q e.1) (λ e. is_slot_in b c e.0 && q e.1) (λ e. inside e.0 (q e.1) (from_cell b c e.0) refl) es)
  where
    inside : (s : Slot) (v t : Bool) → from_cell b c s ≡ t → (t && (is_slot_in b c s && v)) ≡ (is_slot_in b c s && v)
    inside s v true h = refl
    inside s v false h = sym (ap (λ x. x && v) (before_first b c s h))

none_own : (b : ℕ) (c : Cell) (q : Bool → Bool) (es : List (Slot × Bool)) → list_any (λ e. is_slot_in b c e.0) es ≡ false → kept_warnings b c q es ≡ []
none_own b c q [] h = refl
none_own b c q (e ∷ es) h = step (is_slot_in b c e.0) h (none_own b c q es)
  where
    step : (t : Bool) → (t || list_any (λ x. is_slot_in b c x.0) es) ≡ false → (list_any (λ x. is_slot_in b c x.0) es ≡ false → kept_warnings b c q es ≡ []) → map (λ (x : Slot × Bool). x.0.warning) (if t && q e.1 then e ∷ filter (λ x. is_slot_in b c x.0 && q x.1) es else filter (λ x. is_slot_in b c x.0 && q x.1) es) ≡ []
    step true g rest = cc
    step false g rest = rest g

-- behind an entry of another cell there is none of the cell
pub kept_end : (b : ℕ) (c : Cell) (q : Bool → Bool) (e : Slot × Bool) (es : List (Slot × Bool)) → FromCell b c (e ∷ es) → is_slot_in b c e.0 ≡ false → kept_warnings b c q (e ∷ es) ≡ []
kept_end b c q e es h other =
    ap (λ t. map (λ (x : Slot × Bool). x.0.warning) (if t && q e.1 then e ∷ filter (λ x. is_slot_in b c x.0 && q x.1) es else filter (λ x. is_slot_in b c x.0 && q x.1) es)) other
    ∙ none_own b c q es (sym (none_after b c e.0 (and_parts (from_cell b c e.0) (list_all (λ x. from_cell b c x.0) es) h.within).0 other es (sorted_head slot_cmp e.0 (keys_of es) h.ordered)))

-- an entry of the cell that passes is one of them, and one that doesn't pass is passed
pub kept_more : (b : ℕ) (c : Cell) (q : Bool → Bool) (e : Slot × Bool) (es : List (Slot × Bool)) → is_slot_in b c e.0 ≡ true → q e.1 ≡ true → kept_warnings b c q (e ∷ es) ≡ e.0.warning ∷ kept_warnings b c q es
kept_more b c q e es h g =
    λ i. map (λ (x : Slot × Bool). x.0.warning) (if h i && g i then e ∷ filter (λ x. is_slot_in b c x.0 && q x.1) es else filter (λ x. is_slot_in b c x.0 && q x.1) es)

pub kept_passed : (b : ℕ) (c : Cell) (q : Bool → Bool) (e : Slot × Bool) (es : List (Slot × Bool)) → q e.1 ≡ false → kept_warnings b c q (e ∷ es) ≡ kept_warnings b c q es
kept_passed b c q e es g = ap (λ v. map (λ (x : Slot × Bool). x.0.warning) (if is_slot_in b c e.0 && v then e ∷ filter (λ x. is_slot_in b c x.0 && q x.1) es else filter (λ x. is_slot_in b c x.0 && q x.1) es)) g ∙ step (is_slot_in b c e.0)
  where
    step : (t : Bool) → map (λ (x : Slot × Bool). x.0.warning) (if t && false then e ∷ filter (λ x. is_slot_in b c x.0 && q x.1) es else filter (λ x. is_slot_in b c x.0 && q x.1) es) ≡ kept_warnings b c q es
    step true = refl
    step false = refl

-- The warnings of the cell's entries.

later_of_cell : (b : ℕ) (c : Cell) (s t : Slot) → is_slot_in b c s ≡ true → is_slot_in b c t ≡ true → slot_cmp s t ≡ Less → ltb s.warning t.warning ≡ true
later_of_cell b c s t h g l = grind (arith, nat_tests, common_steps)

all_of_cell : (b : ℕ) (c : Cell) (q : Bool → Bool) (s : Slot) → is_slot_in b c s ≡ true → (es : List (Slot × Bool)) → AllByRecursion (λ t. slot_cmp s t ≡ Less) (keys_of es) → list_all (ltb s.warning) (kept_warnings b c q es) ≡ true
all_of_cell b c q s h [] l = refl
all_of_cell b c q s h (e ∷ es) l = step (is_slot_in b c e.0) refl (q e.1) (all_of_cell b c q s h es l.1)
  where
    step : (t : Bool) → is_slot_in b c e.0 ≡ t → (u : Bool) → list_all (ltb s.warning) (kept_warnings b c q es) ≡ true → list_all (ltb s.warning) (map (λ (x : Slot × Bool). x.0.warning) (if t && u then e ∷ filter (λ x. is_slot_in b c x.0 && q x.1) es else filter (λ x. is_slot_in b c x.0 && q x.1) es)) ≡ true
    step true g true rest = and_from (ltb s.warning e.0.warning) (list_all (ltb s.warning) (kept_warnings b c q es)) (later_of_cell b c s e.0 h g l.0) rest
    step true g false rest = rest
    step false g u rest = rest

-- they ascend
pub kept_ascend : (b : ℕ) (c : Cell) (q : Bool → Bool) (es : List (Slot × Bool)) → IsStrictlySortedBy slot_cmp (keys_of es) → is_ascending ltb (kept_warnings b c q es) ≡ true
kept_ascend b c q [] o = refl
kept_ascend b c q (e ∷ es) o = step (is_slot_in b c e.0) refl (q e.1) (kept_ascend b c q es (sorted_tail slot_cmp e.0 (keys_of es) o))
  where
    step : (t : Bool) → is_slot_in b c e.0 ≡ t → (u : Bool) → is_ascending ltb (kept_warnings b c q es) ≡ true → is_ascending ltb (map (λ (x : Slot × Bool). x.0.warning) (if t && u then e ∷ filter (λ x. is_slot_in b c x.0 && q x.1) es else filter (λ x. is_slot_in b c x.0 && q x.1) es)) ≡ true
    step true g true rest =
        and_from (list_all (ltb e.0.warning) (kept_warnings b c q es)) (is_ascending ltb (kept_warnings b c q es)) (all_of_cell b c q e.0 g es (sorted_head slot_cmp e.0 (keys_of es) o)) rest
    step true g false rest = rest
    step false g u rest = rest

split : (x y z : Bool) → (x && (y && z)) ≡ ((x && y) && z)
split true y z = refl
split false y z = refl

-- there is an entry, and it passes
passes : (Bool → Bool) → Option Bool → Bool
passes q None = false
passes q (Some x) = q x

in_turn : (x y p u : Bool) → (((x && y) && p) && u) ≡ ((x && (y && u)) && p)
in_turn true true true true = refl
in_turn true true true false = refl
in_turn true true false true = refl
in_turn true true false false = refl
in_turn true false p u = refl
in_turn false y p u = refl

-- a warning is one of them where its entry is there and passes
kept_have : (b : ℕ) (c : Cell) (q : Bool → Bool) (es : List (Slot × Bool)) → IsStrictlySortedBy slot_cmp (keys_of es) → (w : ℕ) → list_any (nat_eq w) (kept_warnings b c q es) ≡ passes q (lookup (is_slot b c w) es)
unfolding passes
kept_have b c q [] o w = refl
kept_have b c q (e ∷ es) o w =
    first (is_slot_in b c e.0 && q e.1)
    ∙ ap (λ t. t || list_any (nat_eq w) (kept_warnings b c q es)) (in_turn (nat_eq b e.0.bsc) (cell_eq c e.0.cell) (q e.1) (nat_eq w e.0.warning))
    ∙ ap (λ t. (is_slot b c w e.0 && q e.1) || t) (kept_have b c q es (sorted_tail slot_cmp e.0 (keys_of es) o) w)
    ∙ step (is_slot b c w e.0) refl
  where
    first : (t : Bool) → list_any (nat_eq w) (map (λ (x : Slot × Bool). x.0.warning) (if t then e ∷ filter (λ x. is_slot_in b c x.0 && q x.1) es else filter (λ x. is_slot_in b c x.0 && q x.1) es)) ≡ ((t && nat_eq w e.0.warning) || list_any (nat_eq w) (kept_warnings b c q es))
    first true = refl
    first false = refl

    alone : (t : Bool) → (t || false) ≡ t
    alone true = refl
    alone false = refl

    step : (t : Bool) → is_slot b c w e.0 ≡ t → ((t && q e.1) || passes q (lookup (is_slot b c w) es)) ≡ passes q (cond t (Some e.1) (lookup (is_slot b c w) es))
    step true g =
        ap (λ found. q e.1 || passes q found) (none_later slot_cmp b c w e.0 (λ t. other_index_slot b c w e.0 t g) es (sorted_head slot_cmp e.0 (keys_of es) o)) ∙ alone (q e.1)
    step false g = refl

-- The warnings of the cell's lines.

-- the lines of the cell
abbrev pub own_lines : ℕ → Cell → List (Slot × Line) → List (Slot × Line)
own_lines b c es = filter (λ e. is_slot_in b c e.0) es

abbrev pub own_warnings : ℕ → Cell → List (Slot × Line) → List ℕ
own_warnings b c es = map (λ e. e.0.warning) (own_lines b c es)

later_warning : (b : ℕ) (c : Cell) (s t : Slot) → is_slot_in b c s ≡ true → is_slot_in b c t ≡ true → warning_slot_cmp s t ≡ Less → ltb s.warning t.warning ≡ true
later_warning b c s t h g l = grind (arith, nat_tests, common_steps)

all_later : (b : ℕ) (c : Cell) (s : Slot) → is_slot_in b c s ≡ true → (es : List (Slot × Line)) → AllByRecursion (λ t. warning_slot_cmp s t ≡ Less) (keys_of es) → list_all (ltb s.warning) (own_warnings b c es) ≡ true
all_later b c s h [] l = refl
all_later b c s h (e ∷ es) l = step (is_slot_in b c e.0) refl (all_later b c s h es l.1)
  where
    step : (t : Bool) → is_slot_in b c e.0 ≡ t → list_all (ltb s.warning) (own_warnings b c es) ≡ true → list_all (ltb s.warning) (map (λ (x : Slot × Line). x.0.warning) (if t then e ∷ own_lines b c es else own_lines b c es)) ≡ true
    step true g rest = and_from (ltb s.warning e.0.warning) (list_all (ltb s.warning) (own_warnings b c es)) (later_warning b c s e.0 h g l.0) rest
    step false g rest = rest

-- they ascend
pub warnings_ascend : (b : ℕ) (c : Cell) (es : List (Slot × Line)) → IsStrictlySortedBy warning_slot_cmp (keys_of es) → is_ascending ltb (own_warnings b c es) ≡ true
warnings_ascend b c [] o = refl
warnings_ascend b c (e ∷ es) o = step (is_slot_in b c e.0) refl (warnings_ascend b c es (sorted_tail warning_slot_cmp e.0 (keys_of es) o))
  where
    step : (t : Bool) → is_slot_in b c e.0 ≡ t → is_ascending ltb (own_warnings b c es) ≡ true → is_ascending ltb (map (λ (x : Slot × Line). x.0.warning) (if t then e ∷ own_lines b c es else own_lines b c es)) ≡ true
    step true g rest =
        and_from (list_all (ltb e.0.warning) (own_warnings b c es)) (is_ascending ltb (own_warnings b c es)) (all_later b c e.0 g es (sorted_head warning_slot_cmp e.0 (keys_of es) o)) rest
    step false g rest = rest

-- where the lines that are kept aren't blank, a warning is one of them just where its line isn't
pub warnings_have : (b : ℕ) (c : Cell) (es : List (Slot × Line)) → list_all (λ e. not (is_blank e.1)) es ≡ true → IsStrictlySortedBy warning_slot_cmp (keys_of es) → (w : ℕ) → list_any (nat_eq w) (own_warnings b c es) ≡ not (is_blank (unwrap_or (lookup (is_slot b c w) es) blank_line))
warnings_have b c [] full o w = sym (ap not ((blank_decides blank_line).1 refl))
warnings_have b c (e ∷ es) full o w = step (is_slot_in b c e.0) refl (nat_eq w e.0.warning) refl (warnings_have b c es parts.1 (sorted_tail warning_slot_cmp e.0 (keys_of es) o) w)
  where
    parts : (not (is_blank e.1) ≡ true) × (list_all (λ x. not (is_blank x.1)) es ≡ true)
    parts = and_parts (not (is_blank e.1)) (list_all (λ x. not (is_blank x.1)) es) full

    found : (t u : Bool) → is_slot_in b c e.0 ≡ t → nat_eq w e.0.warning ≡ u → is_slot b c w e.0 ≡ (t && u)
    found t u g h = split (nat_eq b e.0.bsc) (cell_eq c e.0.cell) (nat_eq w e.0.warning) ∙ ap (λ x. x && nat_eq w e.0.warning) g ∙ ap (λ x. t && x) h

    step : (t : Bool) → is_slot_in b c e.0 ≡ t → (u : Bool) → nat_eq w e.0.warning ≡ u → list_any (nat_eq w) (own_warnings b c es) ≡ not (is_blank (unwrap_or (lookup (is_slot b c w) es) blank_line)) → list_any (nat_eq w) (map (λ (x : Slot × Line). x.0.warning) (if t then e ∷ own_lines b c es else own_lines b c es)) ≡ not (is_blank (unwrap_or (cond (is_slot b c w e.0) (Some e.1) (lookup (is_slot b c w) es)) blank_line))
    step true g true h rest =
        ap (λ x. x || list_any (nat_eq w) (own_warnings b c es)) h ∙ sym parts.0 ∙ ap (λ x. not (is_blank (unwrap_or (cond x (Some e.1) (lookup (is_slot b c w) es)) blank_line))) (sym (found true true g h))
    step true g false h rest =
        ap (λ x. x || list_any (nat_eq w) (own_warnings b c es)) h ∙ rest ∙ ap (λ x. not (is_blank (unwrap_or (cond x (Some e.1) (lookup (is_slot b c w) es)) blank_line))) (sym (found true false g h))
    step false g u h rest =
        rest ∙ ap (λ x. not (is_blank (unwrap_or (cond x (Some e.1) (lookup (is_slot b c w) es)) blank_line))) (sym (found false u g h))

apart : (x y : ℕ) → ltb x y ≡ true → nat_eq x y ≡ false
apart x y h = grind (arith, nat_tests)

-- they are no more than the numbers among which each warning is whose line isn't blank
pub warnings_few : (b : ℕ) (c : Cell) (es : List (Slot × Line)) → list_all (λ e. not (is_blank e.1)) es ≡ true → IsStrictlySortedBy warning_slot_cmp (keys_of es) → (ns : List ℕ) → ((w : ℕ) → is_blank (unwrap_or (lookup (is_slot b c w) es) blank_line) ≡ false → list_any (nat_eq w) ns ≡ true) → length (own_warnings b c es) ≤ length ns
warnings_few b c es full o ns all =
    once_few nat_eq unsigned_Decides (own_warnings b c es) ns (ascending_once nat_eq ltb apart (own_warnings b c es) (warnings_ascend b c es o)) among
  where
    among : (w : ℕ) → list_any (λ x. nat_eq x w) (own_warnings b c es) ≡ true → list_any (λ x. nat_eq x w) ns ≡ true
    among w h =
        let line : not (is_blank (unwrap_or (lookup (is_slot b c w) es) blank_line)) ≡ true = sym (warnings_have b c es full o w) ∙ any_turned nat_eq unsigned_Decides w (own_warnings b c es) ∙ h in
        sym (any_turned nat_eq unsigned_Decides w ns) ∙ all w (not-true (is_blank (unwrap_or (lookup (is_slot b c w) es) blank_line)) line)

-- no number comes before itself
never_before : (n : ℕ) → ltb n n ≡ false
never_before n = grind (arith, nat_tests)

-- the warnings of the entries are those of the lines
pub same_warnings : (b : ℕ) (c : Cell) (index : List (Slot × Bool)) (es : List (Slot × Line)) → Indexed index es → list_all (λ e. not (is_blank e.1)) es ≡ true → IsStrictlySortedBy slot_cmp (keys_of index) → IsStrictlySortedBy warning_slot_cmp (keys_of es) → kept_warnings b c (λ h. true) index ≡ own_warnings b c es
unfolding passes
same_warnings b c index es is full o p =
    same_ascending nat_eq ltb unsigned_Decides never_before ltb_follows (kept_warnings b c (λ h. true) index) (own_warnings b c es) (kept_ascend b c (λ h. true) index o) (warnings_ascend b c es p)
    (λ w. kept_have b c (λ h. true) index o w ∙ ap (passes (λ h. true)) (is b c w) ∙ entered (is_blank (line_in es b c w)) (is_held_line (line_in es b c w)) ∙ sym (warnings_have b c es full p w))
  where
    entered : (t u : Bool) → passes (λ h. true) (if t then None else Some u) ≡ not t
    entered true u = refl
    entered false u = refl

-- and those of the entries that say that their line is held are those of the lines that are
pub held_warnings : (b : ℕ) (c : Cell) (index : List (Slot × Bool)) (es : List (Slot × Line)) → Indexed index es → list_all (λ e. not (is_blank e.1)) es ≡ true → IsStrictlySortedBy slot_cmp (keys_of index) → IsStrictlySortedBy warning_slot_cmp (keys_of es) → kept_warnings b c (λ h. h) index ≡ filter (λ w. is_held_line (line_in es b c w)) (own_warnings b c es)
unfolding passes
held_warnings b c index es is full o p =
    same_ascending nat_eq ltb unsigned_Decides never_before ltb_follows (kept_warnings b c (λ h. h) index) (filter says (own_warnings b c es)) (kept_ascend b c (λ h. h) index o) (ascending_filter ltb says (own_warnings b c es) (warnings_ascend b c es p))
    (λ w. kept_have b c (λ h. h) index o w ∙ ap (passes (λ h. h)) (is b c w) ∙ entered (is_blank (line_in es b c w)) (says w) ∙ ap (λ t. says w && t) (sym (warnings_have b c es full p w) ∙ any_turned nat_eq unsigned_Decides w (own_warnings b c es)) ∙ sym (any_turned nat_eq unsigned_Decides w (filter says (own_warnings b c es)) ∙ any_filter_same nat_eq unsigned_Decides says w (own_warnings b c es)))
  where
    says : ℕ → Bool
    says w = is_held_line (line_in es b c w)

    entered : (t u : Bool) → passes (λ h. h) (if t then None else Some u) ≡ (u && not t)
    entered true true = refl
    entered true false = refl
    entered false true = refl
    entered false false = refl

-- one of them just where its line is held: a blank line isn't
pub held_have : (b : ℕ) (c : Cell) (index : List (Slot × Bool)) (es : List (Slot × Line)) → Indexed index es → IsStrictlySortedBy slot_cmp (keys_of index) → (w : ℕ) → list_any (nat_eq w) (kept_warnings b c (λ h. h) index) ≡ is_held_line (line_in es b c w)
unfolding passes
held_have b c index es is o w =
    kept_have b c (λ h. h) index o w ∙ ap (passes (λ h. h)) (is b c w) ∙ entered (is_blank (line_in es b c w)) (is_held_line (line_in es b c w)) refl refl
  where
    entered : (t u : Bool) → is_blank (line_in es b c w) ≡ t → is_held_line (line_in es b c w) ≡ u → passes (λ h. h) (if t then None else Some u) ≡ u
    entered true true blanks held = sym (ap is_held_line ((blank_decides (line_in es b c w)).0 blanks)) ∙ held
    entered true false blanks held = refl
    entered false true blanks held = refl
    entered false false blanks held = refl

pub held_few : (b : ℕ) (c : Cell) (es : List (Slot × Line)) → list_all (λ e. not (is_blank e.1)) es ≡ true → IsStrictlySortedBy warning_slot_cmp (keys_of es) → (ns : List ℕ) → ((w : ℕ) → is_blank (unwrap_or (lookup (is_slot b c w) es) blank_line) ≡ false → list_any (nat_eq w) ns ≡ true) → length (filter (λ w. is_held_line (line_in es b c w)) (own_warnings b c es)) ≤ length ns
held_few b c es full o ns all =
    omega (arith, length_filter (λ w. is_held_line (line_in es b c w)) (own_warnings b c es), warnings_few b c es full o ns all)
