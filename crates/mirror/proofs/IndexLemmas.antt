-- What an index has after a line is entered in it, and the lines of one warning in order.
use Rattle.std.proofs.Common.{◌≡◌, ℕ, ◌+◌, ◌≤◌, Bool, true, false, cond, ◌&&◌, ◌||◌, nat_eq, ltb, Option, List, [], ◌∷◌, ◌++◌, length, map, filter, if◌then◌else◌, refl, sym, ◌∙◌, ap, arith, Less}
use Rattle.std.proofs.lemmas.Bool.{and_from}
use Rattle.std.proofs.lemmas.Bool.Decides.{nat_tests}
use Rattle.std.proofs.lemmas.Grind.{common_steps}
use Rattle.std.proofs.lemmas.List.{append-nil}
use Rattle.std.proofs.lemmas.Map.Keys.{sorted_head, sorted_tail}
use Rattle.std.specs.BTreeMap.{is_at}
use Rattle.std.specs.BTreeMap.Range.{range_contains}
use Rattle.std.specs.Cmp.{unsigned_Decides}
use Rattle.std.specs.List.{list_any, list_all, AllByRecursion}
use Rattle.std.specs.List.Sorted.{IsStrictlySortedBy}
use Rattle.std.specs.Map.{keys_of, lookup}
use Rattle.std.specs.declared.ops.Bound.TheVariants.{Included, Excluded}
use Rattle.common.specs.Cell.{cell_eq, cell_lt}
use Rattle.common.specs.Equality.{both, amounts, cell_decides}
use Rattle.common.specs.OnceLaws.{DecidesAll, ascending_once}
use Rattle.common.specs.Order.{is_ascending}
use Rattle.common.specs.declared.cell.Cell.{Cell}
use Rattle.mirror.proofs.CountLemmas.{once_few}
use Rattle.mirror.proofs.KeyLemmas.{at_slot}
use Rattle.mirror.proofs.OnAirLemmas.{filter_twice}
use Rattle.mirror.specs.Index.{IsEntered, key_before}
use Rattle.mirror.specs.Order.{Slot, first_of, slot_cmp, slot_of, warning_slot_cmp}
use Rattle.mirror.specs.Table.{is_key, is_slot}
use Rattle.mirror.specs.declared.line.Line.{Line}
use Rattle.mirror.specs.declared.line_key.LineKey.{LineKey}

-- what is looked up by the order of slots is looked up by their numbers
pub entry_at : (b : ℕ) (c : Cell) (w : ℕ) (es : List (Slot × Bool)) → lookup (is_at (slot_cmp (slot_of b c w))) es ≡ lookup (is_slot b c w) es
entry_at b c w es = ap (λ (test : Slot → Bool). lookup test es) (λ i s. at_slot b c w s i)

at_own_key : (k : LineKey) (b : ℕ) (c : Cell) (w : ℕ) → is_at (slot_cmp (slot_of k.bsc k.cell k.warning)) (slot_of b c w) ≡ is_key k b c w
at_own_key k b c w = grind (arith, nat_tests, common_steps)

-- what an index has once a line is entered in it
pub entered : (k : LineKey) (entry : Option Bool) (old new : List (Slot × Bool)) → ((s : Slot) → lookup (is_at (slot_cmp s)) new ≡ cond (is_at (slot_cmp (slot_of k.bsc k.cell k.warning)) s) entry (lookup (is_at (slot_cmp s)) old)) → IsEntered k entry old new
entered k entry old new h b c w =
    sym (entry_at b c w new) ∙ h (slot_of b c w) ∙ (λ i. cond (at_own_key k b c w i) entry (entry_at b c w old i))

-- The lines of one warning.

-- the BSC of the line has a number
abbrev pub is_numbered : Slot × Line → Bool
is_numbered e = ltb 0 e.0.bsc

-- the line of that warning in the line's cell at its BSC
abbrev pub key_in : ℕ → Slot × Line → LineKey
key_in w e = record { bsc = e.0.bsc; cell = e.0.cell; warning = w }

-- those of the lines
abbrev pub keys_in : ℕ → List (Slot × Line) → List LineKey
keys_in w es = map (key_in w) (filter is_numbered es)

-- the warning's among them
abbrev pub own_keys : ℕ → List (Slot × Line) → List LineKey
own_keys w es = map (key_in w) (filter (λ e. nat_eq w e.0.warning && is_numbered e) es)

between : (w : ℕ) (s : Slot) → (range_contains warning_slot_cmp (Included (first_of w)) (Excluded (first_of (w + 1))) s && ltb 0 s.bsc) ≡ (nat_eq w s.warning && ltb 0 s.bsc)
between w s = grind (arith, nat_tests, common_steps)

-- between the ends of the warning stand its own
pub keys_between : (w : ℕ) (es : List (Slot × Line)) → keys_in w (filter (λ e. range_contains warning_slot_cmp (Included (first_of w)) (Excluded (first_of (w + 1))) e.0) es) ≡ own_keys w es
keys_between w es =
    ap (map (key_in w)) (filter_twice (λ e. range_contains warning_slot_cmp (Included (first_of w)) (Excluded (first_of (w + 1))) e.0) is_numbered (λ e. nat_eq w e.0.warning && is_numbered e) (λ e. between w e.0) es)

here : (w : ℕ) (s : Slot) (b : ℕ) (c : Cell) (v : ℕ) → ((nat_eq w s.warning && ltb 0 s.bsc) && (nat_eq s.bsc b && (cell_eq s.cell c && nat_eq w v))) ≡ (nat_eq w v && (ltb 0 b && is_slot b c v s))
here w s b c v = grind (arith, nat_tests, common_steps)

apart_or : (x y h k : Bool) → ((x && (y && h)) || (x && (y && k))) ≡ (x && (y && (h || k)))
apart_or true true h k = refl
apart_or true false h k = refl
apart_or false y h k = refl

any_kept : (keep : Slot × Line → Bool) (w : ℕ) (b : ℕ) (c : Cell) (v : ℕ) (e : Slot × Line) (rest : List (Slot × Line)) → list_any (λ k. is_key k b c v) (map (key_in w) (filter keep (e ∷ rest))) ≡ ((keep e && is_key (key_in w e) b c v) || list_any (λ k. is_key k b c v) (map (key_in w) (filter keep rest)))
any_kept keep w b c v e rest = step (keep e)
  where
    step : (t : Bool) → list_any (λ k. is_key k b c v) (map (key_in w) (if t then e ∷ filter keep rest else filter keep rest)) ≡ ((t && is_key (key_in w e) b c v) || list_any (λ k. is_key k b c v) (map (key_in w) (filter keep rest)))
    step true = refl
    step false = refl

none_two : (x y : Bool) → false ≡ (x && (y && false))
none_two true true = refl
none_two true false = refl
none_two false y = refl

-- a line is one of the warning's where it is its own, its BSC has a number, and it is there
pub own_have : (w : ℕ) (es : List (Slot × Line)) (b : ℕ) (c : Cell) (v : ℕ) → list_any (λ k. is_key k b c v) (own_keys w es) ≡ (nat_eq w v && (ltb 0 b && list_any (λ e. is_slot b c v e.0) es))
own_have w [] b c v = none_two (nat_eq w v) (ltb 0 b)
own_have w (e ∷ es) b c v =
    any_kept (λ x. nat_eq w x.0.warning && is_numbered x) w b c v e es
    ∙ (λ i. here w e.0 b c v i || own_have w es b c v i)
    ∙ apart_or (nat_eq w v) (ltb 0 b) (is_slot b c v e.0) (list_any (λ x. is_slot b c v x.0) es)

key_after : (w : ℕ) (s t : Slot) → (nat_eq w s.warning && ltb 0 s.bsc) ≡ true → (nat_eq w t.warning && ltb 0 t.bsc) ≡ true → warning_slot_cmp s t ≡ Less → (ltb s.bsc t.bsc || (nat_eq s.bsc t.bsc && cell_lt s.cell t.cell)) ≡ true
key_after w s t h g l = grind (arith, nat_tests, common_steps)

all_after : (w : ℕ) (e : Slot × Line) → (nat_eq w e.0.warning && is_numbered e) ≡ true → (es : List (Slot × Line)) → AllByRecursion (λ t. warning_slot_cmp e.0 t ≡ Less) (keys_of es) → list_all (key_before (key_in w e)) (own_keys w es) ≡ true
all_after w e h [] l = refl
all_after w e h (f ∷ es) l = step (nat_eq w f.0.warning && is_numbered f) refl (all_after w e h es l.1)
  where
    step : (k : Bool) → (nat_eq w f.0.warning && is_numbered f) ≡ k → list_all (key_before (key_in w e)) (own_keys w es) ≡ true → list_all (key_before (key_in w e)) (map (key_in w) (if k then f ∷ filter (λ x. nat_eq w x.0.warning && is_numbered x) es else filter (λ x. nat_eq w x.0.warning && is_numbered x) es)) ≡ true
    step true g rest = and_from (key_before (key_in w e) (key_in w f)) (list_all (key_before (key_in w e)) (own_keys w es)) (key_after w e.0 f.0 h g l.0) rest
    step false g rest = rest

-- they ascend
pub own_ascend : (w : ℕ) (es : List (Slot × Line)) → IsStrictlySortedBy warning_slot_cmp (keys_of es) → is_ascending key_before (own_keys w es) ≡ true
own_ascend w [] o = refl
own_ascend w (e ∷ es) o = step (nat_eq w e.0.warning && is_numbered e) refl (own_ascend w es (sorted_tail warning_slot_cmp e.0 (keys_of es) o))
  where
    step : (k : Bool) → (nat_eq w e.0.warning && is_numbered e) ≡ k → is_ascending key_before (own_keys w es) ≡ true → is_ascending key_before (map (key_in w) (if k then e ∷ filter (λ x. nat_eq w x.0.warning && is_numbered x) es else filter (λ x. nat_eq w x.0.warning && is_numbered x) es)) ≡ true
    step true g rest = and_from (list_all (key_before (key_in w e)) (own_keys w es)) (is_ascending key_before (own_keys w es)) (all_after w e g es (sorted_head warning_slot_cmp e.0 (keys_of es) o)) rest
    step false g rest = rest

-- where none is to come, those found are all
pub ended : {A : Type 0} (found rest all : List A) → found ++ rest ≡ all → rest ≡ [] → found ≡ all
ended found rest all h none = sym (append-nil found) ∙ sym (ap (λ xs. found ++ xs) none) ∙ h

-- Lists of lines.

same_key : LineKey → LineKey → Bool
same_key j k = is_key j k.bsc k.cell k.warning

key_decides : DecidesAll same_key
unfolding same_key
key_decides x y =
    amounts (both (nat_eq x.bsc y.bsc) (cell_eq x.cell y.cell && nat_eq x.warning y.warning) (unsigned_Decides x.bsc y.bsc) (both (cell_eq x.cell y.cell) (nat_eq x.warning y.warning) (cell_decides x.cell y.cell) (unsigned_Decides x.warning y.warning)))
    (λ e. λ i. record { bsc = e.0 i; cell = e.1.0 i; warning = e.1.1 i }) (λ e. (λ i. (e i).bsc, (λ i. (e i).cell, λ i. (e i).warning)))

keys_apart : (x y : LineKey) → key_before x y ≡ true → same_key x y ≡ false
unfolding same_key
keys_apart x y h = grind (arith, nat_tests, common_steps)

-- lines of one warning, in order, are no more than any list that has them all
pub keys_few : (w : ℕ) (xs ys : List LineKey) → is_ascending key_before xs ≡ true → ((b : ℕ) (c : Cell) (v : ℕ) → list_any (λ k. is_key k b c v) xs ≡ true → list_any (λ k. is_key k b c v) ys ≡ true) → length xs ≤ length ys
unfolding same_key
keys_few w xs ys h all =
    once_few same_key key_decides xs ys (ascending_once same_key key_before keys_apart xs h) (λ z. all z.bsc z.cell z.warning)
