-- What each event makes of each BSC and of each cell.
use Rattle.std.proofs.Common.{◌≡◌, ℕ, ◌+◌, Bool, true, false, ◌&&◌, ◌||◌, not, List, [], ◌∷◌, Option, Some, None, nat_eq, ltb, length, filter, map, if◌then◌else◌, refl, sym, ◌∙◌, ap}
use Rattle.std.proofs.lemmas.Bool.{and_parts, or_parts, or_right, and_right, eqb-true, eq-eqb, false_from_ne_true}
use Rattle.std.proofs.lemmas.List.{length-map}
use Rattle.std.specs.Cmp.{unsigned_Decides}
use Rattle.std.specs.List.{list_any, list_all}
use Rattle.std.specs.Option.{is_some}
use Rattle.common.specs.Cell.{cell_eq, cell_lt}
use Rattle.common.specs.Equality.{cell_decides}
use Rattle.common.specs.declared.cell.Cell.{Cell}
use Rattle.cell_register.specs.CellLaws.{cell_lt_other, ltb_other}
use Rattle.common.specs.OnceLaws.{along, differs, any_without_key}
use Rattle.common.specs.Order.{inserted, is_ascending}
use Rattle.common.specs.OrderLaws.{any_inserted, length_inserted, length_without, ascending_filter, ascending_map}
use Rattle.cell_register.specs.Register.{State, has_bsc, place_among, place_in, has_cells, cell_of, cells_of, cells_in, placed_lt, new_placed, with_bsc, without_bsc, with_cell, placed_after_move, moved, without_cell, is_place}
use Rattle.cell_register.specs.Sound.{IsRegister}
use Rattle.cell_register.specs.declared.placed.Placed.{Placed}

-- The BSCs.

pub has_bsc_with_bsc : (b d : ℕ) (r : State) → has_bsc (with_bsc b r) d ≡ (nat_eq b d || has_bsc r d)
has_bsc_with_bsc b d r = any_inserted ltb (λ x. nat_eq x d) b r.bscs

pub has_bsc_without_bsc : (b d : ℕ) (r : State) → has_bsc (without_bsc b r) d ≡ (not (nat_eq b d) && has_bsc r d)
has_bsc_without_bsc b d r =
    any_without_key nat_eq unsigned_Decides (λ x. x) b d r.bscs

pub has_bsc_with_cell : (c : Cell) (b d : ℕ) (r : State) → has_bsc (with_cell c b r) d ≡ has_bsc r d
has_bsc_with_cell c b d r = refl

pub has_bsc_moved : (c : Cell) (b d : ℕ) (r : State) → has_bsc (moved c b r) d ≡ has_bsc r d
has_bsc_moved c b d r = refl

pub has_bsc_without_cell : (c : Cell) (d : ℕ) (r : State) → has_bsc (without_cell c r) d ≡ has_bsc r d
has_bsc_without_cell c d r = refl

pub length_with_bsc : (b : ℕ) (r : State) → length (with_bsc b r).bscs ≡ length r.bscs + 1
length_with_bsc b r = length_inserted ltb b r.bscs

pub length_without_bsc : (b : ℕ) (r : State) → IsRegister r → has_bsc r b ≡ true → length r.bscs ≡ length (without_bsc b r).bscs + 1
length_without_bsc b r sound there =
    length_without ltb (λ x. nat_eq x b) (ltb_other b) r.bscs sound.bscs_ascend there

-- The places of cells.

pub place_in_with_bsc : (b : ℕ) (d : Cell) (r : State) → place_in (with_bsc b r) d ≡ place_in r d
place_in_with_bsc b d r = refl

pub place_in_without_bsc : (b : ℕ) (d : Cell) (r : State) → place_in (without_bsc b r) d ≡ place_in r d
place_in_without_bsc b d r = refl

exchanged : (t u : Bool) (x y z : Option ℕ) → (t ≡ true → u ≡ false) → (if t then x else (if u then y else z)) ≡ (if u then y else (if t then x else z))
exchanged true true x y z apart = absurd (let no : true ≡ false = apart refl in cc)
exchanged true false x y z apart = refl
exchanged false u x y z apart = refl

place_step : (p q : Placed) (d : Cell) (more qs : List Placed) → place_among more d ≡ (if cell_eq p.cell d then Some p.bsc else place_among qs d) → (t : Bool) → placed_lt q p ≡ t → place_among (if t then q ∷ more else p ∷ q ∷ qs) d ≡ (if cell_eq p.cell d then Some p.bsc else place_among (q ∷ qs) d)
place_step p q d more qs e true comes =
    ap (λ o. if cell_eq q.cell d then Some q.bsc else o) e ∙ exchanged (cell_eq q.cell d) (cell_eq p.cell d) (Some q.bsc) (Some p.bsc) (place_among qs d) (λ same. cell_lt_other d q.cell p.cell same comes)
place_step p q d more qs e false comes = refl

pub place_among_inserted : (p : Placed) (d : Cell) (ps : List Placed) → place_among (inserted placed_lt p ps) d ≡ (if cell_eq p.cell d then Some p.bsc else place_among ps d)
place_among_inserted p d [] = refl
place_among_inserted p d (q ∷ qs) = place_step p q d (inserted placed_lt p qs) qs (place_among_inserted p d qs) (placed_lt q p) refl

pub place_in_with_cell : (c : Cell) (b : ℕ) (d : Cell) (r : State) → place_in (with_cell c b r) d ≡ (if cell_eq c d then Some b else place_in r d)
place_in_with_cell c b d r = place_among_inserted (new_placed c b) d r.cells

without_place : (t u v : Bool) (s k a : Option ℕ) → (t ≡ true → u ≡ v) → (t ≡ false → u ≡ true → v ≡ false) → k ≡ (if v then None else a) → (if t then k else (if u then s else k)) ≡ (if v then None else (if u then s else a))
without_place true true true s k a same other e = e
without_place true true false s k a same other e = absurd (let no : true ≡ false = same refl in cc)
without_place true false v s k a same other e = e
without_place false true true s k a same other e = absurd (let no : true ≡ false = other refl refl in cc)
without_place false true false s k a same other e = refl
without_place false false v s k a same other e = e

place_kept : (t : Bool) (p : Placed) (kept : List Placed) (d : Cell) → place_among (if not t then p ∷ kept else kept) d ≡ (if t then place_among kept d else (if cell_eq p.cell d then Some p.bsc else place_among kept d))
place_kept true p kept d = refl
place_kept false p kept d = refl

either_way : (v : Bool) (o : Option ℕ) → o ≡ (if v then o else o)
either_way true o = refl
either_way false o = refl

pub place_among_without : (c d : Cell) (ps : List Placed) → place_among (filter (λ p. not (cell_eq p.cell c)) ps) d ≡ (if cell_eq c d then None else place_among ps d)
place_among_without c d [] = either_way (cell_eq c d) None
place_among_without c d (p ∷ ps) =
    place_kept (cell_eq p.cell c) p (filter (λ q. not (cell_eq q.cell c)) ps) d ∙ without_place (cell_eq p.cell c) (cell_eq p.cell d) (cell_eq c d) (Some p.bsc) (place_among (filter (λ q. not (cell_eq q.cell c)) ps) d) (place_among ps d) (along cell_eq cell_decides c d p.cell) (differs cell_eq cell_decides c d p.cell) (place_among_without c d ps)

pub place_in_without_cell : (c d : Cell) (r : State) → place_in (without_cell c r) d ≡ (if cell_eq c d then None else place_in r d)
place_in_without_cell c d r = place_among_without c d r.cells

-- at the BSC, if it is anywhere
abbrev moved_place : ℕ → Option ℕ → Option ℕ
moved_place b o = if is_some o then Some b else None

moved_test : (t u v : Bool) (s b : ℕ) (k a : Option ℕ) → (t ≡ true → u ≡ v) → (t ≡ false → u ≡ true → v ≡ false) → k ≡ (if v then moved_place b a else a) → (if u then Some (if t then b else s) else k) ≡ (if v then moved_place b (if u then Some s else a) else (if u then Some s else a))
moved_test true true true s b k a same other e = refl
moved_test true true false s b k a same other e = absurd (let no : true ≡ false = same refl in cc)
moved_test t false v s b k a same other e = e
moved_test false true true s b k a same other e = absurd (let no : true ≡ false = other refl refl in cc)
moved_test false true false s b k a same other e = refl

-- the place by the first of a list, or else by the others
abbrev place_first : Placed → Cell → Option ℕ → Option ℕ
place_first p d k = if cell_eq p.cell d then Some p.bsc else k

set_first : (t : Bool) (p : Placed) (b : ℕ) (d : Cell) (k : Option ℕ) → place_first (if t then record p { bsc = b } else p) d k ≡ (if cell_eq p.cell d then Some (if t then b else p.bsc) else k)
set_first true p b d k = refl
set_first false p b d k = refl

place_among_set : (c : Cell) (b : ℕ) (d : Cell) (ps : List Placed) → place_among (map (placed_after_move c b) ps) d ≡ (if cell_eq c d then moved_place b (place_among ps d) else place_among ps d)
place_among_set c b d [] = either_way (cell_eq c d) None
place_among_set c b d (p ∷ ps) =
    set_first (cell_eq p.cell c) p b d (place_among (map (placed_after_move c b) ps) d) ∙ moved_test (cell_eq p.cell c) (cell_eq p.cell d) (cell_eq c d) p.bsc b (place_among (map (placed_after_move c b) ps) d) (place_among ps d) (along cell_eq cell_decides c d p.cell) (differs cell_eq cell_decides c d p.cell) (place_among_set c b d ps)

pub place_in_moved : (c : Cell) (b : ℕ) (d : Cell) (r : State) → is_some (place_in r c) ≡ true → place_in (moved c b r) d ≡ (if cell_eq c d then Some b else place_in r d)
place_in_moved c b d r there = place_among_set c b d r.cells ∙ step (cell_eq c d) refl
  where
    step : (v : Bool) → cell_eq c d ≡ v → (if v then moved_place b (place_in r d) else place_in r d) ≡ (if v then Some b else place_in r d)
    step true e =
        ap (λ t. if t then Some b else None) (ap (λ k. is_some (place_in r k)) (sym ((cell_decides c d).0 e)) ∙ there)
    step false e = refl

-- How many cells there are.

pub length_with_cell : (c : Cell) (b : ℕ) (r : State) → length (with_cell c b r).cells ≡ length r.cells + 1
length_with_cell c b r = length_inserted placed_lt (new_placed c b) r.cells

pub length_moved : (c : Cell) (b : ℕ) (r : State) → length (moved c b r).cells ≡ length r.cells
length_moved c b r = length-map r.cells (placed_after_move c b)

-- a cell has a place if it is one of the list
pub is_some_place_among : (c : Cell) (ps : List Placed) → is_some (place_among ps c) ≡ list_any (λ p. cell_eq p.cell c) ps
is_some_place_among c [] = refl
is_some_place_among c (p ∷ ps) = step (cell_eq p.cell c) (is_some_place_among c ps)
  where
    step : (t : Bool) → is_some (place_among ps c) ≡ list_any (λ q. cell_eq q.cell c) ps → is_some (if t then Some p.bsc else place_among ps c) ≡ (t || list_any (λ q. cell_eq q.cell c) ps)
    step true rest = refl
    step false rest = rest

pub length_without_cell : (c : Cell) (r : State) → IsRegister r → is_some (place_in r c) ≡ true → length r.cells ≡ length (without_cell c r).cells + 1
length_without_cell c r sound there =
    length_without placed_lt (λ p. cell_eq p.cell c) (λ p q. cell_lt_other c p.cell q.cell) r.cells sound.cells_ascend (sym (is_some_place_among c r.cells) ∙ there)

-- The cells of a BSC.

some_same : (x y : ℕ) → Some x ≡ Some y → x ≡ y
some_same x y e = cc

pub at_bsc : (ps : List Placed) (c : Cell) (b : ℕ) → place_among ps c ≡ Some b → list_any (λ p. nat_eq p.bsc b) ps ≡ true
at_bsc [] c b h = cc
at_bsc (p ∷ ps) c b h = step (cell_eq p.cell c) (at_bsc ps c b) h
  where
    step : (t : Bool) → (place_among ps c ≡ Some b → list_any (λ q. nat_eq q.bsc b) ps ≡ true) → (if t then Some p.bsc else place_among ps c) ≡ Some b → (nat_eq p.bsc b || list_any (λ q. nat_eq q.bsc b) ps) ≡ true
    step true rest e = ap (λ t. t || list_any (λ q. nat_eq q.bsc b) ps) (eq-eqb p.bsc b (some_same p.bsc b e))
    step false rest e = or_right (nat_eq p.bsc b) (list_any (λ q. nat_eq q.bsc b) ps) (rest e)

-- a BSC with a cell has cells
pub has_cells_from_place : (r : State) (c : Cell) (b : ℕ) → place_in r c ≡ Some b → has_cells r b ≡ true
has_cells_from_place r c b h = at_bsc r.cells c b h

-- the cell of the first is at none of the others
pub nowhere_after : (p : Placed) (ps : List Placed) (c : Cell) → list_all (placed_lt p) ps ≡ true → cell_eq p.cell c ≡ true → is_some (place_among ps c) ≡ false
nowhere_after p [] c h same = refl
nowhere_after p (q ∷ qs) c h same =
    let order = and_parts (placed_lt p q) (list_all (placed_lt p) qs) h in
    ap (λ t. is_some (if t then Some q.bsc else place_among qs c)) (cell_lt_other c p.cell q.cell same order.0) ∙ nowhere_after p qs c order.1 same

-- a cell of the others is not that of the first
after_first : (p : Placed) (ps : List Placed) (c : Cell) (b : ℕ) → list_all (placed_lt p) ps ≡ true → place_among ps c ≡ Some b → cell_eq p.cell c ≡ false
after_first p ps c b h e =
    false_from_ne_true (cell_eq p.cell c) (λ same. let no : true ≡ false = sym (ap (λ o. is_some o) e) ∙ nowhere_after p ps c h same in cc)

-- the cells with a BSC's number, and a first one that is at another
pub cell_at : (ps : List Placed) (b : ℕ) → is_ascending placed_lt ps ≡ true → list_any (λ p. nat_eq p.bsc b) ps ≡ true → (c : Cell) × (place_among ps c ≡ Some b)
cell_at [] b order h = cc
cell_at (p ∷ ps) b order h = step (nat_eq p.bsc b) refl (cell_at ps b orders.1) h
  where
    orders : (list_all (placed_lt p) ps ≡ true) × (is_ascending placed_lt ps ≡ true)
    orders = and_parts (list_all (placed_lt p) ps) (is_ascending placed_lt ps) order

    itself : (x : ℕ) → nat_eq x x ≡ true
    itself x = eq-eqb x x refl

    here : cell_eq p.cell p.cell ≡ true
    here = (cell_decides p.cell p.cell).1 refl

    later : (found : (c : Cell) × (place_among ps c ≡ Some b)) → (c : Cell) × (place_among (p ∷ ps) c ≡ Some b)
    later found =
        (found.0, ap (λ t. if t then Some p.bsc else place_among ps found.0) (after_first p ps found.0 b orders.0 found.1) ∙ found.1)

    step : (t : Bool) → nat_eq p.bsc b ≡ t → (list_any (λ q. nat_eq q.bsc b) ps ≡ true → (c : Cell) × (place_among ps c ≡ Some b)) → (t || list_any (λ q. nat_eq q.bsc b) ps) ≡ true → (c : Cell) × (place_among (p ∷ ps) c ≡ Some b)
    step true e rest g =
        (p.cell, ap (λ t. if t then Some p.bsc else place_among ps p.cell) here ∙ ap (λ (n : ℕ). Some n) (eqb-true p.bsc b e))
    step false e rest g = later (rest g)

-- a BSC that has cells has one that is placed there
pub place_from_has_cells : (r : State) (b : ℕ) → IsRegister r → has_cells r b ≡ true → (c : Cell) × (place_in r c ≡ Some b)
place_from_has_cells r b sound h = cell_at r.cells b sound.cells_ascend h

none_of : (ps : List Placed) (b : ℕ) → list_any (λ p. nat_eq p.bsc b) ps ≡ false → map cell_of (filter (λ p. nat_eq p.bsc b) ps) ≡ []
none_of [] b h = refl
none_of (p ∷ ps) b h =
    let none = or_parts (nat_eq p.bsc b) (list_any (λ q. nat_eq q.bsc b) ps) h in
    ap (λ t. map cell_of (if t then p ∷ filter (λ q. nat_eq q.bsc b) ps else filter (λ q. nat_eq q.bsc b) ps)) none.0 ∙ none_of ps b none.1

-- the list of a BSC's cells is empty just where it has none
pub cells_of_from_none : (r : State) (b : ℕ) → has_cells r b ≡ false → cells_of r b ≡ []
cells_of_from_none r b h = none_of r.cells b h

any_cell : (ps : List Placed) (b : ℕ) → map cell_of (filter (λ p. nat_eq p.bsc b) ps) ≡ [] → list_any (λ p. nat_eq p.bsc b) ps ≡ false
any_cell [] b h = refl
any_cell (p ∷ ps) b h = step (nat_eq p.bsc b) (any_cell ps b) h
  where
    step : (t : Bool) → (map cell_of (filter (λ q. nat_eq q.bsc b) ps) ≡ [] → list_any (λ q. nat_eq q.bsc b) ps ≡ false) → map cell_of (if t then p ∷ filter (λ q. nat_eq q.bsc b) ps else filter (λ q. nat_eq q.bsc b) ps) ≡ [] → (t || list_any (λ q. nat_eq q.bsc b) ps) ≡ false
    step true rest e = cc
    step false rest e = rest e

pub none_from_cells_of : (r : State) (b : ℕ) → cells_of r b ≡ [] → has_cells r b ≡ false
none_from_cells_of r b h = any_cell r.cells b h

kept_cell : (t : Bool) (p : Placed) (kept : List Placed) (c : Cell) → list_any (λ d. cell_eq d c) (map cell_of (if t then p ∷ kept else kept)) ≡ ((t && cell_eq p.cell c) || list_any (λ d. cell_eq d c) (map cell_of kept))
kept_cell true p kept c = refl
kept_cell false p kept c = refl

no_place : (o : Option ℕ) (b : ℕ) → is_some o ≡ false → is_place o b ≡ false
no_place None b h = refl
no_place (Some d) b h = cc

here_or_later : (t u : Bool) (s b : ℕ) (o : Option ℕ) (l : Bool) → nat_eq s b ≡ t → (u ≡ true → is_some o ≡ false) → l ≡ is_place o b → ((t && u) || l) ≡ is_place (if u then Some s else o) b
here_or_later true true s b o l e nowhere rest = sym e
here_or_later true false s b o l e nowhere rest = rest
here_or_later false true s b o l e nowhere rest = rest ∙ (no_place o b (nowhere refl) ∙ sym e)
here_or_later false false s b o l e nowhere rest = rest

pub one_of_bsc : (ps : List Placed) (c : Cell) (b : ℕ) → is_ascending placed_lt ps ≡ true → list_any (λ d. cell_eq d c) (map cell_of (filter (λ p. nat_eq p.bsc b) ps)) ≡ is_place (place_among ps c) b
one_of_bsc [] c b h = refl
one_of_bsc (p ∷ ps) c b h =
    let order = and_parts (list_all (placed_lt p) ps) (is_ascending placed_lt ps) h in
    kept_cell (nat_eq p.bsc b) p (filter (λ q. nat_eq q.bsc b) ps) c ∙ here_or_later (nat_eq p.bsc b) (cell_eq p.cell c) p.bsc b (place_among ps c) (list_any (λ d. cell_eq d c) (map cell_of (filter (λ q. nat_eq q.bsc b) ps))) refl (nowhere_after p ps c order.0) (one_of_bsc ps c b order.1)

-- a cell is one of a BSC's just where that is its place
pub cells_of_has : (r : State) (c : Cell) (b : ℕ) → IsRegister r → list_any (λ d. cell_eq d c) (cells_of r b) ≡ is_place (place_in r c) b
cells_of_has r c b sound = one_of_bsc r.cells c b sound.cells_ascend

in_or_later : (t u v : Bool) (s : ℕ) (o : Option ℕ) (l : Bool) → (u ≡ true → t ≡ v) → l ≡ (is_some o && v) → ((t && u) || l) ≡ (is_some (if u then Some s else o) && v)
in_or_later true true v s o l same rest = same refl
in_or_later true false v s o l same rest = rest
in_or_later false true true s o l same rest = let no : false ≡ true = same refl in cc
in_or_later false true false s o l same rest = rest ∙ and_right (is_some o) false refl
in_or_later false false v s o l same rest = rest

one_in_area : (ps : List Placed) (c : Cell) (lac : ℕ) → list_any (λ d. cell_eq d c) (map cell_of (filter (λ p. nat_eq p.cell.lac lac) ps)) ≡ (is_some (place_among ps c) && nat_eq c.lac lac)
one_in_area [] c lac = refl
one_in_area (p ∷ ps) c lac =
    kept_cell (nat_eq p.cell.lac lac) p (filter (λ q. nat_eq q.cell.lac lac) ps) c ∙ in_or_later (nat_eq p.cell.lac lac) (cell_eq p.cell c) (nat_eq c.lac lac) p.bsc (place_among ps c) (list_any (λ d. cell_eq d c) (map cell_of (filter (λ q. nat_eq q.cell.lac lac) ps))) (λ same. ap (λ (k : Cell). nat_eq k.lac lac) ((cell_decides p.cell c).0 same)) (one_in_area ps c lac)

-- a cell is one of a location area just where it is registered and has its code
pub cells_in_has : (r : State) (c : Cell) (lac : ℕ) → list_any (λ d. cell_eq d c) (cells_in r lac) ≡ (is_some (place_in r c) && nat_eq c.lac lac)
cells_in_has r c lac = one_in_area r.cells c lac

-- cells are told in ascending order
pub cells_of_ascend : (r : State) (b : ℕ) → IsRegister r → is_ascending cell_lt (cells_of r b) ≡ true
cells_of_ascend r b sound =
    ascending_map placed_lt cell_lt cell_of (λ p q h. h) (filter (λ p. nat_eq p.bsc b) r.cells) (ascending_filter placed_lt (λ p. nat_eq p.bsc b) r.cells sound.cells_ascend)

pub cells_in_ascend : (r : State) (lac : ℕ) → IsRegister r → is_ascending cell_lt (cells_in r lac) ≡ true
cells_in_ascend r lac sound =
    ascending_map placed_lt cell_lt cell_of (λ p q h. h) (filter (λ p. nat_eq p.cell.lac lac) r.cells) (ascending_filter placed_lt (λ p. nat_eq p.cell.lac lac) r.cells sound.cells_ascend)

all_placed : (test : ℕ → Bool) (ps : List Placed) (c : Cell) (b : ℕ) → list_all (λ p. test p.bsc) ps ≡ true → place_among ps c ≡ Some b → test b ≡ true
all_placed test [] c b h e = cc
all_placed test (p ∷ ps) c b h e = step (cell_eq p.cell c) (all_placed test ps c b tests.1) e
  where
    tests : (test p.bsc ≡ true) × (list_all (λ q. test q.bsc) ps ≡ true)
    tests = and_parts (test p.bsc) (list_all (λ q. test q.bsc) ps) h

    step : (t : Bool) → (place_among ps c ≡ Some b → test b ≡ true) → (if t then Some p.bsc else place_among ps c) ≡ Some b → test b ≡ true
    step true rest g = ap test (sym (some_same p.bsc b g)) ∙ tests.0
    step false rest g = rest g

-- a cell's place is a BSC that is registered
pub has_bsc_at_place : (r : State) (c : Cell) (b : ℕ) → IsRegister r → place_in r c ≡ Some b → has_bsc r b ≡ true
has_bsc_at_place r c b sound h = all_placed (has_bsc r) r.cells c b sound.placed h
