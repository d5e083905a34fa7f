-- What a table keeps after a line is set, and what it has at each place.
use Rattle.std.proofs.Common.{◌≡◌, ℕ, Bool, true, false, cond, ◌&&◌, ◌||◌, not, nat_eq, List, [], ◌∷◌, Option, Some, if◌then◌else◌, refl, sym, ◌∙◌, ap, Less, Equal, Greater}
use Rattle.std.proofs.lemmas.Bool.{and_parts, and_from, or_parts, not-true}
use Rattle.std.specs.BTreeMap.{is_at, insert_entry}
use Rattle.std.specs.Cmp.{unsigned_Decides}
use Rattle.std.specs.List.{list_any, list_all}
use Rattle.std.specs.Map.{lookup, remove_entry}
use Rattle.std.specs.Option.{unwrap_or}
use Rattle.std.specs.Ordering.{match_ordering}
use Rattle.std.specs.declared.cmp.Ordering.{Ordering}
use Rattle.common.specs.Cell.{cell_eq}
use Rattle.common.specs.declared.cell.Cell.{Cell}
use Rattle.mirror.proofs.KeyLemmas.{at_warning_slot, at_place}
use Rattle.mirror.specs.Blank.{is_blank}
use Rattle.mirror.specs.BlankLaws.{blank_decides}
use Rattle.mirror.specs.Line.{blank_line}
use Rattle.mirror.specs.Order.{Place, Slot, warning_slot_cmp, place_cmp, slot_of, place_of}
use Rattle.mirror.specs.Table.{is_slot, is_slot_in, is_that_place}
use Rattle.mirror.specs.declared.line.Line.{Line}

-- what is looked up by the order of slots is looked up by their numbers
pub found_at : (b : ℕ) (c : Cell) (w : ℕ) (es : List (Slot × Line)) → lookup (is_at (warning_slot_cmp (slot_of b c w))) es ≡ lookup (is_slot b c w) es
found_at b c w es = ap (λ (test : Slot → Bool). lookup test es) (λ i s. at_warning_slot b c w s i)

-- and a place likewise
pub down_place : (b : ℕ) (c : Cell) (ps : List Place) → list_any (is_at (place_cmp (place_of b c))) ps ≡ list_any (is_that_place b c) ps
down_place b c ps = ap (λ (test : Place → Bool). list_any test ps) (λ i p. at_place b c p i)

-- of a table in which one line is set, each line is that one or as it was
pub lines_set : (k : ℕ) (d : Cell) (v : ℕ) (line : Option Line) (es fs : List (Slot × Line)) → ((q : Slot) → lookup (is_at (warning_slot_cmp q)) fs ≡ cond (is_at (warning_slot_cmp (slot_of k d v)) q) line (lookup (is_at (warning_slot_cmp q)) es)) → (b : ℕ) (c : Cell) (w : ℕ) → unwrap_or (lookup (is_slot b c w) fs) blank_line ≡ (if nat_eq k b && (cell_eq d c && nat_eq v w) then unwrap_or line blank_line else unwrap_or (lookup (is_slot b c w) es) blank_line)
lines_set k d v line es fs set b c w =
    ap (λ o. unwrap_or o blank_line) (sym (found_at b c w fs) ∙ set (slot_of b c w)) ∙ by (is_at (warning_slot_cmp (slot_of k d v)) (slot_of b c w)) (at_warning_slot k d v (slot_of b c w))
  where
    each : (t : Bool) → unwrap_or (cond t line (lookup (is_at (warning_slot_cmp (slot_of b c w))) es)) blank_line ≡ (if t then unwrap_or line blank_line else unwrap_or (lookup (is_slot b c w) es) blank_line)
    each true = refl
    each false = ap (λ o. unwrap_or o blank_line) (found_at b c w es)

    by : (t : Bool) → t ≡ (nat_eq k b && (cell_eq d c && nat_eq v w)) → unwrap_or (cond t line (lookup (is_at (warning_slot_cmp (slot_of b c w))) es)) blank_line ≡ (if nat_eq k b && (cell_eq d c && nat_eq v w) then unwrap_or line blank_line else unwrap_or (lookup (is_slot b c w) es) blank_line)
    by t e = each t ∙ ap (λ u. if u then unwrap_or line blank_line else unwrap_or (lookup (is_slot b c w) es) blank_line) e

-- of the cells that are down, one set, each other is as it was
pub downs_set : (b : ℕ) (c : Cell) (down : Bool) (ps qs : List Place) → ((q : Place) → list_any (is_at (place_cmp q)) qs ≡ cond (is_at (place_cmp (place_of b c)) q) down (list_any (is_at (place_cmp q)) ps)) → (d : ℕ) (e : Cell) → list_any (is_that_place d e) qs ≡ (if nat_eq b d && cell_eq c e then down else list_any (is_that_place d e) ps)
downs_set b c down ps qs set d e =
    sym (down_place d e qs) ∙ set (place_of d e) ∙ ap (λ t. if t then down else list_any (is_at (place_cmp (place_of d e))) ps) (at_place b c (place_of d e)) ∙ ap (λ t. if nat_eq b d && cell_eq c e then down else t) (down_place d e ps)

-- where all values pass a test, they do after one that passes is put in
pub all_insert_entry : {K X : Type 0} (cmp : K → K → Ordering) (test : X → Bool) (k : K) (v : X) → test v ≡ true → (es : List (K × X)) → list_all (λ e. test e.1) es ≡ true → list_all (λ e. test e.1) (insert_entry cmp es k v) ≡ true
all_insert_entry cmp test k v h [] g = and_from (test v) true h refl
all_insert_entry {K} {X} cmp test k v h (e ∷ es) g = step (cmp k e.0) (all_insert_entry cmp test k v h es parts.1)
  where
    parts : (test e.1 ≡ true) × (list_all (λ x. test x.1) es ≡ true)
    parts = and_parts (test e.1) (list_all (λ x. test x.1) es) g

    step : (o : Ordering) → list_all (λ x. test x.1) (insert_entry cmp es k v) ≡ true → list_all (λ x. test x.1) (match_ordering o ((k, v) ∷ e ∷ es) ((e.0, v) ∷ es) (e ∷ insert_entry cmp es k v)) ≡ true
    step Less rest = and_from (test v) (test e.1 && list_all (λ x. test x.1) es) h g
    step Equal rest = and_from (test v) (list_all (λ x. test x.1) es) h parts.1
    step Greater rest = and_from (test e.1) (list_all (λ x. test x.1) (insert_entry cmp es k v)) parts.0 rest

-- and after one is taken out
pub all_remove_entry : {K X : Type 0} (at : K → Bool) (test : X → Bool) (es : List (K × X)) → list_all (λ e. test e.1) es ≡ true → list_all (λ e. test e.1) (remove_entry at es) ≡ true
all_remove_entry at test [] g = refl
all_remove_entry {K} {X} at test (e ∷ es) g = step (at e.0) (all_remove_entry at test es parts.1)
  where
    parts : (test e.1 ≡ true) × (list_all (λ x. test x.1) es ≡ true)
    parts = and_parts (test e.1) (list_all (λ x. test x.1) es) g

    step : (t : Bool) → list_all (λ x. test x.1) (remove_entry at es) ≡ true → list_all (λ x. test x.1) (cond t es (e ∷ remove_entry at es)) ≡ true
    step true rest = parts.1
    step false rest = and_from (test e.1) (list_all (λ x. test x.1) (remove_entry at es)) parts.0 rest

pub other_place : (x y z : Bool) → (x && y) ≡ false → (x && (y && z)) ≡ false
other_place true true z h = cc
other_place true false z h = refl
other_place false y z h = refl

-- where no line of a BSC and a cell is kept, each of theirs is blank
pub none_kept : (b : ℕ) (c : Cell) (es : List (Slot × Line)) → list_any (λ e. is_slot_in b c e.0) es ≡ false → (w : ℕ) → unwrap_or (lookup (is_slot b c w) es) blank_line ≡ blank_line
none_kept b c [] h w = refl
none_kept b c (e ∷ es) h w =
    let none = or_parts (is_slot_in b c e.0) (list_any (λ x. is_slot_in b c x.0) es) h in
    ap (λ t. unwrap_or (cond t (Some e.1) (lookup (is_slot b c w) es)) blank_line) (other_place (nat_eq b e.0.bsc) (cell_eq c e.0.cell) (nat_eq w e.0.warning) none.0) ∙ none_kept b c es none.1 w

-- where one is kept, one isn't blank
pub one_kept : (b : ℕ) (c : Cell) (es : List (Slot × Line)) → list_all (λ e. not (is_blank e.1)) es ≡ true → list_any (λ e. is_slot_in b c e.0) es ≡ true → (w : ℕ) × (is_blank (unwrap_or (lookup (is_slot b c w) es) blank_line) ≡ false)
one_kept b c [] h g = cc
one_kept b c (e ∷ es) h g =
    step (nat_eq b e.0.bsc) refl (cell_eq c e.0.cell) refl (one_kept b c es parts.1) g
  where
    parts : (not (is_blank e.1) ≡ true) × (list_all (λ x. not (is_blank x.1)) es ≡ true)
    parts = and_parts (not (is_blank e.1)) (list_all (λ x. not (is_blank x.1)) es) h

    later : (t u : Bool) → nat_eq b e.0.bsc ≡ t → cell_eq c e.0.cell ≡ u → (t && u) ≡ false → (w : ℕ) × (is_blank (unwrap_or (lookup (is_slot b c w) es) blank_line) ≡ false) → (w : ℕ) × (is_blank (unwrap_or (lookup (is_slot b c w) (e ∷ es)) blank_line) ≡ false)
    later t u p q n found =
        (found.0, ap (λ v. is_blank (unwrap_or (cond v (Some e.1) (lookup (is_slot b c found.0) es)) blank_line)) (ap (λ v. v && (cell_eq c e.0.cell && nat_eq found.0 e.0.warning)) p ∙ ap (λ v. t && (v && nat_eq found.0 e.0.warning)) q ∙ other_place t u (nat_eq found.0 e.0.warning) n) ∙ found.1)

    step : (t : Bool) → nat_eq b e.0.bsc ≡ t → (u : Bool) → cell_eq c e.0.cell ≡ u → (list_any (λ x. is_slot_in b c x.0) es ≡ true → (w : ℕ) × (is_blank (unwrap_or (lookup (is_slot b c w) es) blank_line) ≡ false)) → ((t && u) || list_any (λ x. is_slot_in b c x.0) es) ≡ true → (w : ℕ) × (is_blank (unwrap_or (lookup (is_slot b c w) (e ∷ es)) blank_line) ≡ false)
    step true p true q rest k =
        (e.0.warning, ap (λ v. is_blank (unwrap_or (cond v (Some e.1) (lookup (is_slot b c e.0.warning) es)) blank_line)) (and_from (nat_eq b e.0.bsc) (cell_eq c e.0.cell && nat_eq e.0.warning e.0.warning) p (and_from (cell_eq c e.0.cell) (nat_eq e.0.warning e.0.warning) q ((unsigned_Decides e.0.warning e.0.warning).1 refl))) ∙ not-true (is_blank e.1) parts.0)
    step true p false q rest k = later true false p q refl (rest k)
    step false p true q rest k = later false true p q refl (rest k)
    step false p false q rest k = later false false p q refl (rest k)

-- and where one isn't blank, one is kept
pub some_kept : (b : ℕ) (c : Cell) (w : ℕ) (es : List (Slot × Line)) → is_blank (unwrap_or (lookup (is_slot b c w) es) blank_line) ≡ false → list_any (λ e. is_slot_in b c e.0) es ≡ true
some_kept b c w es h = step (list_any (λ e. is_slot_in b c e.0) es) refl
  where
    step : (t : Bool) → list_any (λ e. is_slot_in b c e.0) es ≡ t → t ≡ true
    step true e = refl
    step false e =
        let no : true ≡ false = sym ((blank_decides blank_line).1 refl) ∙ (ap is_blank (sym (none_kept b c es e w)) ∙ h) in
        absurd cc
