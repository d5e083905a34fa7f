-- A table and its index, after a line is set.
use Rattle.std.proofs.Common.{◌≡◌, ℕ, ◌<◌, ltb, subst, Bool, true, false, cond, ◌&&◌, ◌||◌, not, nat_eq, List, [], ◌∷◌, Option, Some, None, if◌then◌else◌, refl, sym, ◌∙◌, ap, arith, Less, Equal, Greater}
use Rattle.std.proofs.lemmas.Bool.{and_from, and_parts, not-true, or_parts}
use Rattle.std.proofs.lemmas.Bool.Decides.{nat_tests}
use Rattle.std.proofs.lemmas.Grind.{common_steps}
use Rattle.std.specs.BTreeMap.{is_at, insert_entry}
use Rattle.std.specs.List.{list_any, list_all}
use Rattle.std.specs.Map.{lookup, remove_entry}
use Rattle.std.specs.Bool.{beq}
use Rattle.std.specs.Option.{unwrap_or, is_some, option_eq, option_map}
use Rattle.std.specs.Ordering.{is_eq, match_ordering}
use Rattle.std.specs.declared.cmp.Ordering.{Ordering}
use Rattle.common.specs.Cell.{cell_eq}
use Rattle.common.specs.declared.cell.Cell.{Cell}
use Rattle.common.specs.Equality.{cell_decides}
use Rattle.std.specs.Cmp.{unsigned_Decides}
use Rattle.mirror.proofs.KeptLemmas.{none_kept, one_kept, other_place}
use Rattle.mirror.specs.Blank.{is_blank}
use Rattle.mirror.specs.BlankLaws.{blank_decides}
use Rattle.mirror.specs.Held.{is_held_line}
use Rattle.mirror.specs.Index.{entry_of, line_in, IsEntered, IsSet}
use Rattle.mirror.specs.Line.{blank_line}
use Rattle.mirror.specs.Order.{Slot, warning_slot_cmp}
use Rattle.mirror.specs.Table.{is_key, is_slot, is_slot_in}
use Rattle.mirror.specs.declared.line.Line.{Line}
use Rattle.mirror.specs.declared.line_key.LineKey.{LineKey}

-- the index has the lines that aren't blank, each with whether it is held
abbrev pub Indexed : List (Slot × Bool) → List (Slot × Line) → Type 0
Indexed index es = (b : ℕ) (c : Cell) (w : ℕ) → lookup (is_slot b c w) index ≡ entry_of (line_in es b c w)

pub full_entry : (line : Line) → is_blank line ≡ false → entry_of line ≡ Some (is_held_line line)
full_entry line h = ap (λ t. if t then None else Some (is_held_line line)) h

blank_entry : entry_of blank_line ≡ None
blank_entry = ap (λ t. if t then None else Some (is_held_line blank_line)) ((blank_decides blank_line).1 refl)

no_entry : (line : Line) → entry_of line ≡ None → not (is_blank line) ≡ false
no_entry line = step (is_blank line)
  where
    step : (t : Bool) → (if t then None else Some (is_held_line line)) ≡ None → not t ≡ false
    step true h = refl
    step false h = cc

-- the index with the line, where it isn't blank
pub indexed_with : (k : LineKey) (line : Line) → is_blank line ≡ false → (old new : List (Slot × Bool)) (es fs : List (Slot × Line)) → IsEntered k (Some (is_held_line line)) old new → IsSet k line es fs → Indexed old es → Indexed new fs
indexed_with k line h old new es fs put set was b c w =
    put b c w ∙ step (is_key k b c w) ∙ ap entry_of (sym (set b c w))
  where
    step : (t : Bool) → (if t then Some (is_held_line line) else lookup (is_slot b c w) old) ≡ entry_of (if t then line else line_in es b c w)
    step true = sym (full_entry line h)
    step false = was b c w

-- and without it, where it is
pub indexed_without : (k : LineKey) (old new : List (Slot × Bool)) (es fs : List (Slot × Line)) → IsEntered k None old new → IsSet k blank_line es fs → Indexed old es → Indexed new fs
indexed_without k old new es fs taken set was b c w =
    taken b c w ∙ step (is_key k b c w) ∙ ap entry_of (sym (set b c w))
  where
    step : (t : Bool) → (if t then None else lookup (is_slot b c w) old) ≡ entry_of (if t then blank_line else line_in es b c w)
    step true = sym blank_entry
    step false = was b c w

-- an index in which the line is entered so stays as it is
pub already : (k : LineKey) (entry : Option Bool) (index : List (Slot × Bool)) → lookup (is_slot k.bsc k.cell k.warning) index ≡ entry → IsEntered k entry index index
already k entry index h b c w = step (is_key k b c w) refl
  where
    own : is_key k b c w ≡ true → lookup (is_slot b c w) index ≡ entry
    own e =
        let outer = and_parts (nat_eq k.bsc b) _ e in
        let inner = and_parts _ (nat_eq k.warning w) outer.1 in
        (λ i. lookup (is_slot (sym ((unsigned_Decides k.bsc b).0 outer.0) i) (sym ((cell_decides k.cell c).0 inner.0) i) (sym ((unsigned_Decides k.warning w).0 inner.1) i)) index) ∙ h

    step : (t : Bool) → is_key k b c w ≡ t → lookup (is_slot b c w) index ≡ (if t then entry else lookup (is_slot b c w) index)
    step true e = own e
    step false e = refl

-- and one in which a line that isn't kept isn't entered
pub absent : (k : LineKey) (index : List (Slot × Bool)) (es : List (Slot × Line)) → Indexed index es → lookup (is_slot k.bsc k.cell k.warning) es ≡ None → IsEntered k None index index
absent k index es is h = already k None index (is k.bsc k.cell k.warning ∙ ap (λ o. entry_of (unwrap_or o blank_line)) h ∙ blank_entry)

-- a line that is kept isn't blank
pub kept_full : (test : Slot → Bool) (es : List (Slot × Line)) → list_all (λ e. not (is_blank e.1)) es ≡ true → is_some (lookup test es) ≡ true → is_blank (unwrap_or (lookup test es) blank_line) ≡ false
kept_full test [] h g = cc
kept_full test (e ∷ es) h g = step (test e.0) (kept_full test es parts.1) g
  where
    parts : (not (is_blank e.1) ≡ true) × (list_all (λ x. not (is_blank x.1)) es ≡ true)
    parts = and_parts (not (is_blank e.1)) (list_all (λ x. not (is_blank x.1)) es) h

    full : (t : Bool) → not t ≡ true → t ≡ false
    full true q = cc
    full false q = refl

    step : (t : Bool) → (is_some (lookup test es) ≡ true → is_blank (unwrap_or (lookup test es) blank_line) ≡ false) → is_some (cond t (Some e.1) (lookup test es)) ≡ true → is_blank (unwrap_or (cond t (Some e.1) (lookup test es)) blank_line) ≡ false
    step true rest q = full (is_blank e.1) parts.0
    step false rest q = rest q

-- the entry of a line that is kept says whether it is held
pub kept_entry : (k : LineKey) (index : List (Slot × Bool)) (es : List (Slot × Line)) → list_all (λ e. not (is_blank e.1)) es ≡ true → Indexed index es → (h : Bool) → option_map is_held_line (lookup (is_slot k.bsc k.cell k.warning) es) ≡ Some h → lookup (is_slot k.bsc k.cell k.warning) index ≡ Some h
kept_entry k index es full is h old = is k.bsc k.cell k.warning ∙ step (lookup (is_slot k.bsc k.cell k.warning) es) refl old
  where
    step : (o : Option Line) → lookup (is_slot k.bsc k.cell k.warning) es ≡ o → option_map is_held_line o ≡ Some h → entry_of (line_in es k.bsc k.cell k.warning) ≡ Some h
    step None g e = cc
    step (Some line) g e =
        full_entry (line_in es k.bsc k.cell k.warning) (kept_full (is_slot k.bsc k.cell k.warning) es full (ap is_some g)) ∙ ap (λ o. Some (is_held_line (unwrap_or o blank_line))) g ∙ e

-- a line that isn't entered isn't kept
pub not_entered : (k : LineKey) (index : List (Slot × Bool)) (es : List (Slot × Line)) → list_all (λ e. not (is_blank e.1)) es ≡ true → Indexed index es → lookup (is_slot k.bsc k.cell k.warning) index ≡ None → lookup (is_slot k.bsc k.cell k.warning) es ≡ None
not_entered k index es full is none = step (lookup (is_slot k.bsc k.cell k.warning) es) refl
  where
    step : (o : Option Line) → lookup (is_slot k.bsc k.cell k.warning) es ≡ o → o ≡ None
    step None g = refl
    step (Some line) g =
        let no : None ≡ Some (is_held_line (line_in es k.bsc k.cell k.warning)) = sym none ∙ is k.bsc k.cell k.warning ∙ full_entry (line_in es k.bsc k.cell k.warning) (kept_full (is_slot k.bsc k.cell k.warning) es full (ap is_some g)) in
        absurd cc

-- the test of two entries is true where they are the same
pub same_entry : (o : Option Bool) (h : Bool) → option_eq beq o (Some h) ≡ true → o ≡ Some h
same_entry None h e = cc
same_entry (Some true) true e = refl
same_entry (Some true) false e = cc
same_entry (Some false) true e = cc
same_entry (Some false) false e = refl

-- no BSC has the number 0
pub numbered_with : (k : LineKey) (entry : Option Bool) (old new : List (Slot × Bool)) → 0 < k.bsc → IsEntered k entry old new → ((c : Cell) (w : ℕ) → lookup (is_slot 0 c w) old ≡ None) → (c : Cell) (w : ℕ) → lookup (is_slot 0 c w) new ≡ None
numbered_with k entry old new h put was c w =
    let none : nat_eq k.bsc 0 ≡ false = grind (arith, nat_tests) in
    put 0 c w ∙ (λ i. if none i && (cell_eq k.cell c && nat_eq k.warning w) then entry else was c w i)

pub numbered_without : (k : LineKey) (old new : List (Slot × Bool)) → IsEntered k None old new → ((c : Cell) (w : ℕ) → lookup (is_slot 0 c w) old ≡ None) → (c : Cell) (w : ℕ) → lookup (is_slot 0 c w) new ≡ None
numbered_without k old new taken was c w = taken 0 c w ∙ step (is_key k 0 c w)
  where
    step : (t : Bool) → (if t then None else lookup (is_slot 0 c w) old) ≡ None
    step true = refl
    step false = was c w

at_itself : (s : Slot) → is_at (warning_slot_cmp s) s ≡ true
at_itself s = grind (arith, nat_tests, common_steps)

-- what is put in and taken out again leaves what was
pub taken_back : (s : Slot) (line : Line) (es : List (Slot × Line)) → lookup (is_at (warning_slot_cmp s)) es ≡ None → remove_entry (is_at (warning_slot_cmp s)) (insert_entry warning_slot_cmp es s line) ≡ es
taken_back s line [] h = ap (λ t. cond t [] ((s, line) ∷ [])) (at_itself s)
taken_back s line (e ∷ es) h = step (warning_slot_cmp s e.0) refl (taken_back s line es)
  where
    step : (o : Ordering) → warning_slot_cmp s e.0 ≡ o → (lookup (is_at (warning_slot_cmp s)) es ≡ None → remove_entry (is_at (warning_slot_cmp s)) (insert_entry warning_slot_cmp es s line) ≡ es) → remove_entry (is_at (warning_slot_cmp s)) (match_ordering o ((s, line) ∷ e ∷ es) ((e.0, line) ∷ es) (e ∷ insert_entry warning_slot_cmp es s line)) ≡ e ∷ es
    step Less g rest = ap (λ t. cond t (e ∷ es) ((s, line) ∷ remove_entry (is_at (warning_slot_cmp s)) (e ∷ es))) (at_itself s)
    step Equal g rest = let no : Some e.1 ≡ None = ap (λ t. cond t (Some e.1) (lookup (is_at (warning_slot_cmp s)) es)) (sym (ap is_eq g)) ∙ h in cc
    step Greater g rest =
        let off : is_at (warning_slot_cmp s) e.0 ≡ false = ap is_eq g in
        ap (λ t. cond t (insert_entry warning_slot_cmp es s line) (e ∷ remove_entry (is_at (warning_slot_cmp s)) (insert_entry warning_slot_cmp es s line))) off
        ∙ ap (λ xs. e ∷ xs) (rest (sym (ap (λ t. cond t (Some e.1) (lookup (is_at (warning_slot_cmp s)) es)) off) ∙ h))

-- a line is kept just where it isn't blank
there_full : (b : ℕ) (c : Cell) (w : ℕ) (es : List (Slot × Line)) → list_all (λ e. not (is_blank e.1)) es ≡ true → list_any (λ e. is_slot b c w e.0) es ≡ not (is_blank (line_in es b c w))
there_full b c w [] h = sym (ap not ((blank_decides blank_line).1 refl))
there_full b c w (e ∷ es) h = step (is_slot b c w e.0) (there_full b c w es parts.1)
  where
    parts : (not (is_blank e.1) ≡ true) × (list_all (λ x. not (is_blank x.1)) es ≡ true)
    parts = and_parts (not (is_blank e.1)) (list_all (λ x. not (is_blank x.1)) es) h

    step : (t : Bool) → list_any (λ x. is_slot b c w x.0) es ≡ not (is_blank (line_in es b c w)) → (t || list_any (λ x. is_slot b c w x.0) es) ≡ not (is_blank (unwrap_or (cond t (Some e.1) (lookup (is_slot b c w) es)) blank_line))
    step true rest = sym parts.0
    step false rest = rest

-- so a line of a warning is kept at a BSC with a number just where it isn't blank
pub own_kept : (w : ℕ) (index : List (Slot × Bool)) (es : List (Slot × Line)) → list_all (λ e. not (is_blank e.1)) es ≡ true → Indexed index es → ((c : Cell) (v : ℕ) → lookup (is_slot 0 c v) index ≡ None) → (b : ℕ) (c : Cell) (v : ℕ) → (nat_eq w v && (ltb 0 b && list_any (λ e. is_slot b c v e.0) es)) ≡ (nat_eq w v && not (is_blank (line_in es b c v)))
own_kept w index es full is none b c v = ap (λ t. nat_eq w v && (ltb 0 b && t)) (there_full b c v es full) ∙ ap (λ t. nat_eq w v && t) (numbered b)
  where
    above : (n : ℕ) → nat_eq 0 n ≡ false → ltb 0 n ≡ true
    above n h = grind (arith, nat_tests)

    says : ℕ → Bool
    says n = not (is_blank (line_in es n c v))

    never : (t u : Bool) → u ≡ false → (t && u) ≡ u
    never true u h = refl
    never false u h = sym h

    step : (n : ℕ) (t : Bool) → nat_eq 0 n ≡ t → (ltb 0 n && says n) ≡ says n
    step n true e = never (ltb 0 n) (says n) (ap says (sym ((unsigned_Decides 0 n).0 e)) ∙ no_entry (line_in es 0 c v) (sym (is 0 c v) ∙ none c v))
    step n false e = ap (λ t. t && says n) (above n e)

    numbered : (n : ℕ) → (ltb 0 n && says n) ≡ says n
    numbered n = step n (nat_eq 0 n) refl

-- so a list that has each line of the warning that isn't blank has those
pub own_full : (w : ℕ) (es : List (Slot × Line)) (ks : List LineKey) → ((b : ℕ) (c : Cell) → is_blank (line_in es b c w) ≡ false → list_any (λ k. is_key k b c w) ks ≡ true) → (b : ℕ) (c : Cell) (v : ℕ) → (nat_eq w v && not (is_blank (line_in es b c v))) ≡ true → list_any (λ k. is_key k b c v) ks ≡ true
own_full w es ks all b c v h =
    let parts = and_parts (nat_eq w v) (not (is_blank (line_in es b c v))) h in
    let own : w ≡ v = (unsigned_Decides w v).0 parts.0 in
    subst (λ n. is_blank (line_in es b c n) ≡ false → list_any (λ k. is_key k b c n) ks ≡ true) own (all b c) (not-true (is_blank (line_in es b c v)) parts.1)

-- nothing was kept where nothing came out
pub nothing : {A : Type 0} (o : Option A) → is_some o ≡ false → o ≡ None
nothing None h = refl
nothing (Some x) h = cc

-- The entries and the lines of a cell.

-- where there is an entry of the cell, there is one of a warning
one_entry : (b : ℕ) (c : Cell) (es : List (Slot × Bool)) → list_any (λ e. is_slot_in b c e.0) es ≡ true → (w : ℕ) × (is_some (lookup (is_slot b c w) es) ≡ true)
one_entry b c [] h = cc
one_entry b c (e ∷ es) h = step (nat_eq b e.0.bsc) refl (cell_eq c e.0.cell) refl h (one_entry b c es)
  where
    either : (t : Bool) (o : Option Bool) → is_some o ≡ true → is_some (cond t (Some e.1) o) ≡ true
    either true o g = refl
    either false o g = g

    later : (w : ℕ) × (is_some (lookup (is_slot b c w) es) ≡ true) → (w : ℕ) × (is_some (lookup (is_slot b c w) (e ∷ es)) ≡ true)
    later found = (found.0, either (is_slot b c found.0 e.0) (lookup (is_slot b c found.0) es) found.1)

    step : (t : Bool) → nat_eq b e.0.bsc ≡ t → (u : Bool) → cell_eq c e.0.cell ≡ u → ((t && u) || list_any (λ x. is_slot_in b c x.0) es) ≡ true → (list_any (λ x. is_slot_in b c x.0) es ≡ true → (w : ℕ) × (is_some (lookup (is_slot b c w) es) ≡ true)) → (w : ℕ) × (is_some (lookup (is_slot b c w) (e ∷ es)) ≡ true)
    step true p true q k rest =
        (e.0.warning, ap (λ t. is_some (cond t (Some e.1) (lookup (is_slot b c e.0.warning) es))) (and_from (nat_eq b e.0.bsc) (cell_eq c e.0.cell && nat_eq e.0.warning e.0.warning) p (and_from (cell_eq c e.0.cell) (nat_eq e.0.warning e.0.warning) q ((unsigned_Decides e.0.warning e.0.warning).1 refl))))
    step true p false q k rest = later (rest k)
    step false p u q k rest = later (rest k)

-- and where there is none of the cell, there is none of a warning
none_entered : (b : ℕ) (c : Cell) (es : List (Slot × Bool)) → list_any (λ e. is_slot_in b c e.0) es ≡ false → (w : ℕ) → lookup (is_slot b c w) es ≡ None
none_entered b c [] h w = refl
none_entered b c (e ∷ es) h w =
    let none = or_parts (is_slot_in b c e.0) (list_any (λ x. is_slot_in b c x.0) es) h in
    ap (λ t. cond t (Some e.1) (lookup (is_slot b c w) es)) (other_place (nat_eq b e.0.bsc) (cell_eq c e.0.cell) (nat_eq w e.0.warning) none.0) ∙ none_entered b c es none.1 w

-- there is an entry of the cell just where a line of it is kept
pub line_by_slot : (b : ℕ) (c : Cell) (index : List (Slot × Bool)) (es : List (Slot × Line)) → list_all (λ e. not (is_blank e.1)) es ≡ true → Indexed index es → list_any (λ e. is_slot_in b c e.0) index ≡ list_any (λ e. is_slot_in b c e.0) es
line_by_slot b c index es full is = step (list_any (λ e. is_slot_in b c e.0) index) refl (list_any (λ e. is_slot_in b c e.0) es) refl
  where
    step : (t : Bool) → list_any (λ e. is_slot_in b c e.0) index ≡ t → (u : Bool) → list_any (λ e. is_slot_in b c e.0) es ≡ u → t ≡ u
    step true h true g = refl
    step false h false g = refl
    step true h false g =
        let found = one_entry b c index h in
        sym found.1 ∙ ap is_some (is b c found.0 ∙ ap entry_of (none_kept b c es g found.0) ∙ blank_entry)
    step false h true g =
        let found = one_kept b c es full g in
        ap is_some (sym (none_entered b c index h found.0) ∙ is b c found.0 ∙ full_entry (line_in es b c found.0) found.1)
