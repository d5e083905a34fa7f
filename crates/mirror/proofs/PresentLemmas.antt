-- Whether a version may be on air, found by the lines of its warning.
use Rattle.std.proofs.Common.{◌≡◌, ℕ, ◌+◌, ◌≤◌, ◌<◌, ◌%◌, Bool, true, false, cond, ◌&&◌, ◌||◌, not, nat_eq, ltb, List, [], ◌∷◌, Some, None, length, filter, map, if◌then◌else◌, refl, sym, ◌∙◌, ap, arith, Less}
use Rattle.std.proofs.lemmas.Bool.{and_from, and_parts, or_parts}
use Rattle.std.proofs.lemmas.Bool.Decides.{nat_tests}
use Rattle.std.proofs.lemmas.Grind.{common_steps}
use Rattle.std.proofs.lemmas.List.{get_or-replicate}
use Rattle.std.proofs.lemmas.Map.Keys.{sorted_head, sorted_tail}
use Rattle.std.specs.BTreeMap.Range.{range_contains}
use Rattle.std.specs.Cmp.{unsigned_Decides}
use Rattle.std.specs.List.{list_any, list_all, AllByRecursion}
use Rattle.std.specs.List.Sorted.{IsStrictlySortedBy}
use Rattle.std.specs.Map.{keys_of, lookup}
use Rattle.std.specs.Option.{unwrap_or}
use Rattle.std.specs.declared.ops.Bound.TheVariants.{Included, Excluded}
use Rattle.common.specs.Cell.{cell_eq}
use Rattle.common.specs.Equality.{cell_decides}
use Rattle.common.specs.declared.cell.Cell.{Cell}
use Rattle.mirror.proofs.IndexLemmas.{is_numbered, key_in, keys_few, own_ascend, own_have, own_keys}
use Rattle.mirror.proofs.TableLemmas.{Indexed, not_entered, own_full, own_kept}
use Rattle.mirror.specs.Blank.{is_blank}
use Rattle.mirror.specs.Index.{line_in}
use Rattle.mirror.specs.Line.{blank, blank_line}
use Rattle.mirror.specs.Order.{Slot, first_of, warning_slot_cmp}
use Rattle.mirror.specs.Present.{is_present_in}
use Rattle.mirror.specs.Seen.{is_absent}
use Rattle.mirror.specs.Table.{is_key, is_slot}
use Rattle.mirror.specs.declared.line.Line.{Line}
use Rattle.mirror.specs.declared.line_key.LineKey.{LineKey}

-- between the ends of the warning stand its own slots
within : (w : ℕ) (s : Slot) → range_contains warning_slot_cmp (Included (first_of w)) (Excluded (first_of (w + 1))) s ≡ nat_eq w s.warning
within w s = grind (arith, nat_tests, common_steps)

pub lines_within : (w : ℕ) (es : List (Slot × Line)) → filter (λ e. range_contains warning_slot_cmp (Included (first_of w)) (Excluded (first_of (w + 1))) e.0) es ≡ filter (λ e. nat_eq w e.0.warning) es
lines_within w es = ap (λ (test : Slot × Line → Bool). filter test es) (λ i e. within w e.0 i)

-- what passes one test and then another is what passes both
pub any_of : {A : Type 0} (p q : A → Bool) (xs : List A) → list_any q (filter p xs) ≡ list_any (λ x. p x && q x) xs
any_of p q [] = refl
any_of {A} p q (x ∷ xs) = step (p x) (any_of p q xs)
  where
    step : (t : Bool) → list_any q (filter p xs) ≡ list_any (λ y. p y && q y) xs → list_any q (if t then x ∷ filter p xs else filter p xs) ≡ ((t && q x) || list_any (λ y. p y && q y) xs)
    step true rest = ap (λ u. q x || u) rest
    step false rest = rest

-- by a blank line nothing is on air, nor may be
pub blank_absent : (s : ℕ) → is_present_in s blank_line ≡ false
blank_absent s =
    let below : s % 16 < 16 = omega arith in
    ap (λ k. not (is_absent k.presence)) (get_or-replicate 16 (s % 16) blank blank below)

own_slot : (s : Slot) (w : ℕ) → nat_eq w s.warning ≡ true → is_slot s.bsc s.cell w s ≡ true
own_slot s w h =
    and_from (nat_eq s.bsc s.bsc) (cell_eq s.cell s.cell && nat_eq w s.warning) ((unsigned_Decides s.bsc s.bsc).1 refl) (and_from (cell_eq s.cell s.cell) (nat_eq w s.warning) ((cell_decides s.cell s.cell).1 refl) h)

slots_apart : (b : ℕ) (c : Cell) (w : ℕ) (s t : Slot) → is_slot b c w s ≡ true → warning_slot_cmp s t ≡ Less → is_slot b c w t ≡ false
slots_apart b c w s t h l = grind (arith, nat_tests, common_steps)

-- after a slot no other line of it is kept
none_later : (b : ℕ) (c : Cell) (w : ℕ) (s : Slot) → is_slot b c w s ≡ true → (es : List (Slot × Line)) → AllByRecursion (λ t. warning_slot_cmp s t ≡ Less) (keys_of es) → lookup (is_slot b c w) es ≡ None
none_later b c w s h [] l = refl
none_later b c w s h (e ∷ es) l =
    ap (λ t. cond t (Some e.1) (lookup (is_slot b c w) es)) (slots_apart b c w s e.0 h l.0) ∙ none_later b c w s h es l.1

-- where a line of the warning says so, the version is on air in some cell, or may be
pub present_found : (w s : ℕ) (es : List (Slot × Line)) → IsStrictlySortedBy warning_slot_cmp (keys_of es) → list_any (λ e. nat_eq w e.0.warning && is_present_in s e.1) es ≡ true → (b : ℕ) × ((c : Cell) × (is_present_in s (line_in es b c w) ≡ true))
present_found w s [] o h = cc
present_found w s (e ∷ es) o h =
    step (nat_eq w e.0.warning && is_present_in s e.1) refl h (present_found w s es (sorted_tail warning_slot_cmp e.0 (keys_of es) o))
  where
    later : (b : ℕ) (c : Cell) → is_present_in s (line_in es b c w) ≡ true → (t : Bool) → is_slot b c w e.0 ≡ t → is_present_in s (unwrap_or (cond t (Some e.1) (lookup (is_slot b c w) es)) blank_line) ≡ true
    later b c h true q =
        let no : false ≡ true = sym (blank_absent s) ∙ sym (ap (λ o. is_present_in s (unwrap_or o blank_line)) (none_later b c w e.0 q es (sorted_head warning_slot_cmp e.0 (keys_of es) o))) ∙ h in
        absurd cc
    later b c h false q = h

    step : (t : Bool) → (nat_eq w e.0.warning && is_present_in s e.1) ≡ t → (t || list_any (λ x. nat_eq w x.0.warning && is_present_in s x.1) es) ≡ true → (list_any (λ x. nat_eq w x.0.warning && is_present_in s x.1) es ≡ true → (b : ℕ) × ((c : Cell) × (is_present_in s (line_in es b c w) ≡ true))) → (b : ℕ) × ((c : Cell) × (is_present_in s (line_in (e ∷ es) b c w) ≡ true))
    step true p k rest =
        let parts = and_parts (nat_eq w e.0.warning) (is_present_in s e.1) p in
        (e.0.bsc, (e.0.cell, ap (λ t. is_present_in s (unwrap_or (cond t (Some e.1) (lookup (is_slot e.0.bsc e.0.cell w) es)) blank_line)) (own_slot e.0 w parts.0) ∙ parts.1))
    step false p k rest =
        let found = rest k in
        (found.0, (found.1.0, later found.0 found.1.0 found.1.1 (is_slot found.0 found.1.0 w e.0) refl))

-- and where none says so, it is in none
pub none_present : (w s : ℕ) (es : List (Slot × Line)) → list_any (λ e. nat_eq w e.0.warning && is_present_in s e.1) es ≡ false → (b : ℕ) (c : Cell) → is_present_in s (line_in es b c w) ≡ false
none_present w s [] h b c = blank_absent s
none_present w s (e ∷ es) h b c = step (is_slot b c w e.0) refl (none_present w s es parts.1 b c)
  where
    parts : ((nat_eq w e.0.warning && is_present_in s e.1) ≡ false) × (list_any (λ x. nat_eq w x.0.warning && is_present_in s x.1) es ≡ false)
    parts = or_parts (nat_eq w e.0.warning && is_present_in s e.1) (list_any (λ x. nat_eq w x.0.warning && is_present_in s x.1) es) h

    own : is_slot b c w e.0 ≡ true → nat_eq w e.0.warning ≡ true
    own q =
        let outer = and_parts (nat_eq b e.0.bsc) (cell_eq c e.0.cell && nat_eq w e.0.warning) q in
        (and_parts (cell_eq c e.0.cell) (nat_eq w e.0.warning) outer.1).1

    step : (t : Bool) → is_slot b c w e.0 ≡ t → is_present_in s (line_in es b c w) ≡ false → is_present_in s (unwrap_or (cond t (Some e.1) (lookup (is_slot b c w) es)) blank_line) ≡ false
    step true q rest = sym (ap (λ t. t && is_present_in s e.1) (own q)) ∙ parts.0
    step false q rest = rest

-- How many lines the warning has.

-- where none is kept of a BSC with the number 0, each BSC has a number
all_numbered : (es : List (Slot × Line)) → ((c : Cell) (v : ℕ) → lookup (is_slot 0 c v) es ≡ None) → list_all is_numbered es ≡ true
all_numbered [] h = refl
all_numbered (e ∷ es) h = and_from (is_numbered e) (list_all is_numbered es) (first (nat_eq 0 e.0.bsc) refl) (all_numbered es (λ c v. rest c v (is_slot 0 c v e.0) refl (h c v)))
  where
    above : (n : ℕ) → nat_eq 0 n ≡ false → ltb 0 n ≡ true
    above n q = grind (arith, nat_tests)

    first : (t : Bool) → nat_eq 0 e.0.bsc ≡ t → is_numbered e ≡ true
    first false q = above e.0.bsc q
    first true q =
        let own : is_slot 0 e.0.cell e.0.warning e.0 ≡ true = and_from (nat_eq 0 e.0.bsc) (cell_eq e.0.cell e.0.cell && nat_eq e.0.warning e.0.warning) q (and_from (cell_eq e.0.cell e.0.cell) (nat_eq e.0.warning e.0.warning) ((cell_decides e.0.cell e.0.cell).1 refl) ((unsigned_Decides e.0.warning e.0.warning).1 refl)) in
        let no : Some e.1 ≡ None = sym (ap (λ t. cond t (Some e.1) (lookup (is_slot 0 e.0.cell e.0.warning) es)) own) ∙ h e.0.cell e.0.warning in
        absurd cc

    rest : (c : Cell) (v : ℕ) → (t : Bool) → is_slot 0 c v e.0 ≡ t → cond t (Some e.1) (lookup (is_slot 0 c v) es) ≡ None → lookup (is_slot 0 c v) es ≡ None
    rest c v true q k = cc
    rest c v false q k = k

own_numbered : (w : ℕ) (es : List (Slot × Line)) → list_all is_numbered es ≡ true → length (filter (λ e. nat_eq w e.0.warning) es) ≡ length (own_keys w es)
own_numbered w [] h = refl
own_numbered w (e ∷ es) h = step (nat_eq w e.0.warning) (is_numbered e) parts.0 (own_numbered w es parts.1)
  where
    parts : (is_numbered e ≡ true) × (list_all is_numbered es ≡ true)
    parts = and_parts (is_numbered e) (list_all is_numbered es) h

    step : (t u : Bool) → u ≡ true → length (filter (λ x. nat_eq w x.0.warning) es) ≡ length (own_keys w es) → length (if t then e ∷ filter (λ x. nat_eq w x.0.warning) es else filter (λ x. nat_eq w x.0.warning) es) ≡ length (map (key_in w) (if t && u then e ∷ filter (λ x. nat_eq w x.0.warning && is_numbered x) es else filter (λ x. nat_eq w x.0.warning && is_numbered x) es))
    step true true q rest = omega (arith, rest)
    step true false q rest = cc
    step false u q rest = rest

no_number : (index : List (Slot × Bool)) (es : List (Slot × Line)) → list_all (λ e. not (is_blank e.1)) es ≡ true → Indexed index es → ((c : Cell) (v : ℕ) → lookup (is_slot 0 c v) index ≡ None) → (c : Cell) (v : ℕ) → lookup (is_slot 0 c v) es ≡ None
no_number index es full is none c v = not_entered (record { bsc = 0; cell = c; warning = v }) index es full is (none c v)

-- they are no more than any list of lines that has each of the warning that isn't blank
pub own_few : (w : ℕ) (index : List (Slot × Bool)) (es : List (Slot × Line)) → IsStrictlySortedBy warning_slot_cmp (keys_of es) → list_all (λ e. not (is_blank e.1)) es ≡ true → Indexed index es → ((c : Cell) (v : ℕ) → lookup (is_slot 0 c v) index ≡ None) → (ks : List LineKey) → ((b : ℕ) (c : Cell) → is_blank (line_in es b c w) ≡ false → list_any (λ k. is_key k b c w) ks ≡ true) → length (filter (λ e. nat_eq w e.0.warning) es) ≤ length ks
own_few w index es o full is none ks all =
    let few = keys_few w (own_keys w es) ks (own_ascend w es o) (λ b c v h. own_full w es ks all b c v (sym (own_have w es b c v ∙ own_kept w index es full is none b c v) ∙ h)) in
    let same = own_numbered w es (all_numbered es (no_number index es full is none)) in
    omega (arith, few, same)
