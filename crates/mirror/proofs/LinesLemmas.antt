-- The lines that are kept, found by their slots, and in the order of these.
use Rattle.std.proofs.Common.{◌≡◌, ℕ, suc, Bool, true, false, cond, ◌||◌, List, [], ◌∷◌, Option, Some, None, slice_get, length, map, filter, if◌then◌else◌, refl, sym, ◌∙◌, ap, arith, Less, Equal, Greater}
use Rattle.std.proofs.lemmas.Bool.{or_parts}
use Rattle.std.proofs.lemmas.Bool.Decides.{nat_tests}
use Rattle.std.proofs.lemmas.Grind.{common_steps}
use Rattle.std.proofs.lemmas.Map.Keys.{sorted_head, sorted_tail}
use Rattle.std.specs.BTreeMap.{is_at, insert_entry}
use Rattle.std.specs.BTreeSet.{insert_key}
use Rattle.std.specs.List.{list_any, AllByRecursion}
use Rattle.std.specs.List.Sorted.{IsStrictlySortedBy}
use Rattle.std.specs.Map.{keys_of, lookup_key, remove_entry}
use Rattle.std.specs.Option.{is_some, unwrap_or}
use Rattle.std.specs.Ordering.{is_eq, is_le, match_ordering}
use Rattle.std.specs.Set.{remove_key}
use Rattle.std.specs.declared.cmp.Ordering.{Ordering}
use Rattle.mirror.specs.Line.{blank_line}
use Rattle.mirror.specs.Lines.{AreSlotsOf, IsKept, kept_at, line_of, lines_at}
use Rattle.mirror.specs.Order.{Slot, warning_slot_cmp}
use Rattle.mirror.specs.OrderLaws.{tied_slots}
use Rattle.mirror.specs.declared.line.Line.{Line}

-- the slot is one of these
abbrev pub is_in : Slot → List Slot → Bool
is_in s ss = list_any (is_at (warning_slot_cmp s)) ss

tied : (s : Slot) → is_at (warning_slot_cmp s) s ≡ true
tied s = grind (arith, nat_tests, common_steps)

-- What is found among the slots with their lines.

found_in : (ss : List Slot) (es : List (Slot × Line)) (q : Slot) → kept_at (lines_at ss es) q ≡ cond (is_in q ss) (Some (line_of es q)) None
found_in [] es q = refl
found_in (s ∷ ss) es q = step (is_at (warning_slot_cmp q) s) refl (found_in ss es q)
  where
    step : (t : Bool) → is_at (warning_slot_cmp q) s ≡ t → kept_at (lines_at ss es) q ≡ cond (is_in q ss) (Some (line_of es q)) None → cond t (Some (line_of es s)) (kept_at (lines_at ss es) q) ≡ cond (t || is_in q ss) (Some (line_of es q)) None
    step true h rest = ap (λ k. Some (line_of es k)) (sym (tied_slots q s h))
    step false h rest = rest

whole : (o : Option Line) → cond (is_some o) (Some (unwrap_or o blank_line)) None ≡ o
whole None = refl
whole (Some line) = refl

-- each slot's line is the one that is kept
pub kept_same : (ss : List Slot) (es : List (Slot × Line)) → AreSlotsOf ss es → (q : Slot) → kept_at (lines_at ss es) q ≡ kept_at es q
kept_same ss es all q =
    found_in ss es q ∙ ap (λ t. cond t (Some (line_of es q)) None) (all q) ∙ whole (kept_at es q)

pub slots_same : (ss : List Slot) (es : List (Slot × Line)) → keys_of (lines_at ss es) ≡ ss
slots_same [] es = refl
slots_same (s ∷ ss) es = ap (λ ks. s ∷ ks) (slots_same ss es)

-- there are as many lines as slots
pub as_many_lines : (ss : List Slot) (es : List (Slot × Line)) → length (lines_at ss es) ≡ length ss
as_many_lines [] es = refl
as_many_lines (s ∷ ss) es = ap suc (as_many_lines ss es)

-- where the same is kept at each slot, the lines are the same
pub lines_same : (ss : List Slot) (es fs : List (Slot × Line)) → ((q : Slot) → kept_at fs q ≡ kept_at es q) → lines_at ss fs ≡ lines_at ss es
lines_same ss es fs same = λ i. map (λ s. (s, unwrap_or (same s i) blank_line)) ss

-- the lines at their own slots are all of them
pub lines_whole : (ss : List Slot) (es : List (Slot × Line)) → AreSlotsOf ss es → lines_at (keys_of (lines_at ss es)) (lines_at ss es) ≡ lines_at ss es
lines_whole ss es all =
    ap (λ ks. lines_at ks (lines_at ss es)) (slots_same ss es) ∙ lines_same ss es (lines_at ss es) (kept_same ss es all)

filtered : (test : Slot → Bool) (ss : List Slot) (es : List (Slot × Line)) → lines_at (filter test ss) es ≡ filter (λ e. test e.0) (lines_at ss es)
filtered test [] es = refl
filtered test (s ∷ ss) es = step (test s) (filtered test ss es)
  where
    step : (t : Bool) → lines_at (filter test ss) es ≡ filter (λ e. test e.0) (lines_at ss es) → lines_at (if t then s ∷ filter test ss else filter test ss) es ≡ (if t then (s, line_of es s) ∷ filter (λ e. test e.0) (lines_at ss es) else filter (λ e. test e.0) (lines_at ss es))
    step true rest = ap (λ xs. (s, line_of es s) ∷ xs) rest
    step false rest = rest

-- the lines at those slots that pass a test are those of the lines that do
pub lines_filtered : (test : Slot → Bool) (es : List (Slot × Line)) → lines_at (keys_of es) es ≡ es → lines_at (filter test (keys_of es)) es ≡ filter (λ e. test e.0) es
lines_filtered test es all = filtered test (keys_of es) es ∙ ap (filter (λ e. test e.0)) all

-- the slot that is found is the one that was sought
pub slot_found : (s : Slot) (es : List (Slot × Line)) (x : Slot) → lookup_key (is_at (warning_slot_cmp s)) es ≡ Some x → x ≡ s
slot_found s [] x h = cc
slot_found s (e ∷ es) x h = step (slot_found s es x) (is_at (warning_slot_cmp s) e.0) refl h
  where
    step : (lookup_key (is_at (warning_slot_cmp s)) es ≡ Some x → x ≡ s) → (t : Bool) → is_at (warning_slot_cmp s) e.0 ≡ t → cond t (Some e.0) (lookup_key (is_at (warning_slot_cmp s)) es) ≡ Some x → x ≡ s
    step rest true f g = let is : e.0 ≡ x = cc in sym is ∙ sym (tied_slots s e.0 f)
    step rest false f g = rest g

-- what stands at the place of a slot is the slot and its line
pub entry_is : (s : Slot) (es : List (Slot × Line)) (i : ℕ) (x : Slot) (line : Line) → slice_get es i ≡ Some (x, line) → slice_get es i ≡ Some (s, line_of es s) → (x ≡ s) × (line ≡ line_of es s)
entry_is s es i x line h g =
    let both : ◌≡◌ {A = Slot × Line} (x, line) (s, line_of es s) = cc in
    (λ j. (both j).0, λ j. (both j).1)

-- What is put in and taken out.

later_other : (s x t : Slot) → is_le (warning_slot_cmp s x) ≡ true → warning_slot_cmp x t ≡ Less → is_at (warning_slot_cmp s) t ≡ false
later_other s x t h l = grind (arith, nat_tests, common_steps)

-- none of those that come after a slot, where this isn't before the one, is that one
none_after : (s x : Slot) → is_le (warning_slot_cmp s x) ≡ true → (ss : List Slot) → AllByRecursion (λ t. warning_slot_cmp x t ≡ Less) ss → is_in s ss ≡ false
none_after s x h [] l = refl
none_after s x h (t ∷ ss) l = ap (λ u. u || is_in s ss) (later_other s x t h l.0) ∙ none_after s x h ss l.1

-- at a slot, what is kept afterwards, and at each other what was kept
pub kept_there : (s : Slot) (line : Option Line) (es fs : List (Slot × Line)) → IsKept s line es fs → kept_at fs s ≡ line
kept_there s line es fs set = set s ∙ ap (λ t. cond t line (kept_at es s)) (tied s)

line_as_was : (s : Slot) (line : Option Line) (es fs : List (Slot × Line)) → IsKept s line es fs → (q : Slot) → is_at (warning_slot_cmp s) q ≡ false → line_of fs q ≡ line_of es q
line_as_was s line es fs set q h = ap (λ o. unwrap_or o blank_line) (set q ∙ ap (λ t. cond t line (kept_at es q)) h)

-- the lines of other slots are as they were
others_same : (s : Slot) (line : Option Line) (es fs : List (Slot × Line)) → IsKept s line es fs → (ss : List Slot) → is_in s ss ≡ false → lines_at ss fs ≡ lines_at ss es
others_same s line es fs set [] h = refl
others_same s line es fs set (x ∷ ss) h =
    let none = or_parts (is_at (warning_slot_cmp s) x) (is_in s ss) h in
    λ i. (x, line_as_was s line es fs set x none.0 i) ∷ others_same s line es fs set ss none.1 i

-- where the slot was none of them, it is put in with its line
pub put_new : (s : Slot) (line : Line) (es fs : List (Slot × Line)) → IsKept s (Some line) es fs → (ss : List Slot) → is_in s ss ≡ false → lines_at (insert_key warning_slot_cmp ss s) fs ≡ insert_entry warning_slot_cmp (lines_at ss es) s line
put_new s line es fs set [] h = ap (λ o. (s, unwrap_or o blank_line) ∷ []) (kept_there s (Some line) es fs set)
put_new s line es fs set (x ∷ ss) h = step (warning_slot_cmp s x) refl (put_new s line es fs set ss none.1)
  where
    none : (is_at (warning_slot_cmp s) x ≡ false) × (is_in s ss ≡ false)
    none = or_parts (is_at (warning_slot_cmp s) x) (is_in s ss) h

    step : (o : Ordering) → warning_slot_cmp s x ≡ o → lines_at (insert_key warning_slot_cmp ss s) fs ≡ insert_entry warning_slot_cmp (lines_at ss es) s line → lines_at (match_ordering o (s ∷ x ∷ ss) (x ∷ ss) (x ∷ insert_key warning_slot_cmp ss s)) fs ≡ match_ordering o ((s, line) ∷ lines_at (x ∷ ss) es) ((x, line) ∷ lines_at ss es) ((x, line_of es x) ∷ insert_entry warning_slot_cmp (lines_at ss es) s line)
    step Less g rest = λ i. (s, unwrap_or (kept_there s (Some line) es fs set i) blank_line) ∷ others_same s (Some line) es fs set (x ∷ ss) h i
    step Equal g rest = let no : true ≡ false = sym (ap is_eq g) ∙ none.0 in cc
    step Greater g rest = λ i. (x, line_as_was s (Some line) es fs set x none.0 i) ∷ rest i

-- where it was one of them, its line is another
pub put_again : (s : Slot) (line : Line) (es fs : List (Slot × Line)) → IsKept s (Some line) es fs → (ss : List Slot) → IsStrictlySortedBy warning_slot_cmp ss → is_in s ss ≡ true → lines_at ss fs ≡ insert_entry warning_slot_cmp (lines_at ss es) s line
put_again s line es fs set [] o h = cc
put_again s line es fs set (x ∷ ss) o h =
    step (warning_slot_cmp s x) refl (put_again s line es fs set ss (sorted_tail warning_slot_cmp x ss o))
  where
    after : AllByRecursion (λ t. warning_slot_cmp x t ≡ Less) ss
    after = sorted_head warning_slot_cmp x ss o

    step : (o : Ordering) → warning_slot_cmp s x ≡ o → (is_in s ss ≡ true → lines_at ss fs ≡ insert_entry warning_slot_cmp (lines_at ss es) s line) → lines_at (x ∷ ss) fs ≡ match_ordering o ((s, line) ∷ lines_at (x ∷ ss) es) ((x, line) ∷ lines_at ss es) ((x, line_of es x) ∷ insert_entry warning_slot_cmp (lines_at ss es) s line)
    step Less g rest =
        let no : false ≡ true = sym (ap (λ t. t || is_in s ss) (ap is_eq g) ∙ none_after s x (ap is_le g) ss after) ∙ h in cc
    step Equal g rest =
        let there : line_of fs x ≡ line = ap (line_of fs) (sym (tied_slots s x (ap is_eq g))) ∙ ap (λ o. unwrap_or o blank_line) (kept_there s (Some line) es fs set) in
        λ i. (x, there i) ∷ others_same s (Some line) es fs set ss (none_after s x (ap is_le g) ss after) i
    step Greater g rest =
        let off : is_at (warning_slot_cmp s) x ≡ false = ap is_eq g in
        λ i. (x, line_as_was s (Some line) es fs set x off i) ∷ rest (sym (ap (λ t. t || is_in s ss) off) ∙ h) i

-- it is taken out with its line, where it isn't one of the others
pub taken_out : (s : Slot) (es fs : List (Slot × Line)) → IsKept s None es fs → (ss : List Slot) → is_in s (remove_key (is_at (warning_slot_cmp s)) ss) ≡ false → lines_at (remove_key (is_at (warning_slot_cmp s)) ss) fs ≡ remove_entry (is_at (warning_slot_cmp s)) (lines_at ss es)
taken_out s es fs set [] h = refl
taken_out s es fs set (x ∷ ss) h = step (is_at (warning_slot_cmp s) x) refl (taken_out s es fs set ss) h
  where
    others : List Slot
    others = remove_key (is_at (warning_slot_cmp s)) ss

    step : (t : Bool) → is_at (warning_slot_cmp s) x ≡ t → (is_in s others ≡ false → lines_at others fs ≡ remove_entry (is_at (warning_slot_cmp s)) (lines_at ss es)) → is_in s (cond t ss (x ∷ others)) ≡ false → lines_at (cond t ss (x ∷ others)) fs ≡ cond t (lines_at ss es) ((x, line_of es x) ∷ remove_entry (is_at (warning_slot_cmp s)) (lines_at ss es))
    step true g rest none = others_same s None es fs set ss none
    step false g rest none =
        let apart = or_parts (is_at (warning_slot_cmp s) x) (is_in s others) none in
        λ i. (x, line_as_was s None es fs set x g i) ∷ rest apart.1 i

-- where it was none of them, nothing is taken out
pub none_taken : (s : Slot) (ss : List Slot) (es : List (Slot × Line)) → is_in s ss ≡ false → lines_at ss es ≡ remove_entry (is_at (warning_slot_cmp s)) (lines_at ss es)
none_taken s [] es h = refl
none_taken s (x ∷ ss) es h =
    let none = or_parts (is_at (warning_slot_cmp s) x) (is_in s ss) h in
    ap (λ xs. (x, line_of es x) ∷ xs) (none_taken s ss es none.1) ∙ ap (λ t. cond t (lines_at ss es) ((x, line_of es x) ∷ remove_entry (is_at (warning_slot_cmp s)) (lines_at ss es))) (sym none.0)

-- The slots go on to be those of the lines.

pub slots_set : (s : Slot) (line : Option Line) (es fs : List (Slot × Line)) (ss ts : List Slot) → IsKept s line es fs → ((q : Slot) → is_in q ts ≡ cond (is_at (warning_slot_cmp s) q) (is_some line) (is_in q ss)) → AreSlotsOf ss es → AreSlotsOf ts fs
slots_set s line es fs ss ts set put all q =
    put q ∙ step (is_at (warning_slot_cmp s) q) ∙ ap is_some (sym (set q))
  where
    step : (t : Bool) → cond t (is_some line) (is_in q ss) ≡ is_some (cond t line (kept_at es q))
    step true = refl
    step false = all q

-- where a line is kept at the slot already, it is one of them
pub slots_again : (s : Slot) (line : Line) (es fs : List (Slot × Line)) (ss : List Slot) → IsKept s (Some line) es fs → is_in s ss ≡ true → AreSlotsOf ss es → AreSlotsOf ss fs
slots_again s line es fs ss set there all = slots_set s (Some line) es fs ss ss set same all
  where
    same : (q : Slot) → is_in q ss ≡ cond (is_at (warning_slot_cmp s) q) true (is_in q ss)
    same q = step (is_at (warning_slot_cmp s) q) refl
      where
        step : (t : Bool) → is_at (warning_slot_cmp s) q ≡ t → is_in q ss ≡ cond t true (is_in q ss)
        step true h = ap (λ k. is_in k ss) (sym (tied_slots s q h)) ∙ there
        step false h = refl

-- where the slot is none of them, no line is kept there
pub slots_back : (s : Slot) (ss : List Slot) (es : List (Slot × Line)) → is_in s ss ≡ is_some (kept_at es s) → is_in s ss ≡ false → kept_at es s ≡ None
slots_back s ss es all none = step (kept_at es s) (sym all ∙ none)
  where
    step : (o : Option Line) → is_some o ≡ false → o ≡ None
    step None h = refl
    step (Some line) h = cc

-- where a line is put in and taken out again, each is as it was
pub kept_back : (s : Slot) (line : Line) (es fs gs : List (Slot × Line)) → kept_at es s ≡ None → IsKept s (Some line) es fs → IsKept s None fs gs → (q : Slot) → kept_at gs q ≡ kept_at es q
kept_back s line es fs gs none put taken q = taken q ∙ step (is_at (warning_slot_cmp s) q) refl
  where
    step : (t : Bool) → is_at (warning_slot_cmp s) q ≡ t → cond t None (kept_at fs q) ≡ kept_at es q
    step true h = sym none ∙ ap (kept_at es) (tied_slots s q h)
    step false h = put q ∙ ap (λ t. cond t (Some line) (kept_at es q)) h

-- what is set among the lines as they are kept is set among them in order
pub set_in_order : (s : Slot) (line : Option Line) (es fs : List (Slot × Line)) (ss ts : List Slot) → AreSlotsOf ss es → AreSlotsOf ts fs → IsKept s line es fs → IsKept s line (lines_at ss es) (lines_at ts fs)
set_in_order s line es fs ss ts all after set q =
    kept_same ts fs after q ∙ set q ∙ ap (λ o. cond (is_at (warning_slot_cmp s) q) line o) (sym (kept_same ss es all q))
