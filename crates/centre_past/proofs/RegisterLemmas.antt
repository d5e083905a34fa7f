-- What the register tells and counts is what the entries say.
use Rattle.std.proofs.Common.{◌≡◌, ℕ, Bool, true, false, ◌&&◌, ◌||◌, not, nat_eq, ltb, List, [], ◌∷◌, Option, Some, None, Ok, unwrap_or, length, map, refl, sym, ◌∙◌, ap, cond, eqb-true, eq-eqb}
use Rattle.std.proofs.lemmas.Bool.{not-false}
use Rattle.std.proofs.lemmas.List.{length-map}
use Rattle.std.specs.Cmp.{unsigned_Decides}
use Rattle.std.specs.List.{list_any}
use Rattle.std.specs.Option.{is_some}
use Rattle.common.specs.Cell.{cell_eq, cell_lt}
use Rattle.common.specs.Equality.{cell_decides}
use Rattle.common.specs.declared.cell.Cell.{Cell}
use Rattle.cell_register.specs.CellLaws.{cell_lt_other, ltb_other}
use Rattle.cell_register.specs.Laws.{has_bsc_with_bsc, has_bsc_without_bsc, place_in_with_cell, place_in_without_cell, place_in_moved, is_some_place_among, has_cells_from_place, place_from_has_cells}
use Rattle.common.specs.OnceLaws.{turned, any_turned, ascending_once}
use Rattle.common.specs.OrderLaws.{ascending_map}
use Rattle.cell_register.specs.Register.{State, has_bsc, place_in, cell_of, placed_lt, is_place}
use Rattle.cell_register.specs.Register as register
use Rattle.cell_register.specs.Sound.{IsRegister}
use Rattle.cell_register.specs.declared.placed.Placed.{Placed}
use Rattle.centre_events.specs.Kept.{IsRegisterOf, register_then}
use Rattle.coverage_plan.specs.Edited.{register_after}
use Rattle.centre_events.specs.Links.{bsc_mark, bscs, is_bsc, bsc_count, added_bsc}
use Rattle.centre_events.specs.Past.{Past, After, IsUnfolded, by_edit}
use Rattle.centre_events.specs.Places.{place_mark, place, cells, is_registered, cell_count, added_cell}
use Rattle.centre_events.specs.Verdict.{answered, edit_answered, has_cells, move_cell_checks}
use Rattle.centre_events.specs.declared.answer.Answer.{Answer}
use Rattle.centre_events.specs.declared.answer.Answer.TheVariants as answer
use Rattle.coverage_plan.specs.declared.edit.Edit.{Edit}
use Rattle.coverage_plan.specs.declared.edit.Edit.TheVariants as edit
use Rattle.centre_events.specs.declared.entry.Entry.{Entry}
use Rattle.centre_events.specs.declared.event.Event.{Event}
use Rattle.centre_events.specs.declared.event.Event.TheVariants as event
use Rattle.centre_events.specs.declared.network.Network.{Network}
use Rattle.centre_past.proofs.AnyLemmas.{any_at}
use Rattle.centre_past.proofs.BscLemmas.{bsc_named}
use Rattle.centre_past.proofs.CheckLemmas.{no_check}
use Rattle.centre_past.proofs.CountLemmas.{same_count, named_once, both_or_it}
use Rattle.centre_past.proofs.KnownLemmas.{known_place}

-- One entry further.

-- an entry that says it, or what was so before
pub said_or : (t before : Bool) → unwrap_or (cond t (Some true) None) before ≡ (t || before)
said_or true before = refl
said_or false before = refl

pub unsaid_or : (t before : Bool) → unwrap_or (cond t (Some false) None) before ≡ (not t && before)
unsaid_or true before = refl
unsaid_or false before = refl

placed_or : {A : Type 0} (t : Bool) (now before : A) → cond t now before ≡ unwrap_or (cond t (Some now) None) before
placed_or true now before = refl
placed_or false now before = refl

bsc_after : (e : Edit) (b : ℕ) (r : State) (before : Bool) → has_bsc r b ≡ before → has_bsc (register_after e r) b ≡ unwrap_or (bsc_mark b e) before
bsc_after (edit.AddBsc d) b r before h = has_bsc_with_bsc d b r ∙ ap (λ t. nat_eq d b || t) h ∙ sym (said_or (nat_eq d b) before)
bsc_after (edit.RemoveBsc d) b r before h = has_bsc_without_bsc d b r ∙ ap (λ t. not (nat_eq d b) && t) h ∙ sym (unsaid_or (nat_eq d b) before)
bsc_after other b r before h = h

place_after : (past : Past) (e : Edit) (a : Answer) (c : Cell) (r : State) → edit_answered past e ≡ Ok a → ((d : Cell) → place_in r d ≡ place past d) → place_in (register_after e r) c ≡ unwrap_or (place_mark c e) (place past c)
place_after past (edit.AddCell d b) a c r v h = place_in_with_cell d b c r ∙ ap (λ o. cond (cell_eq d c) (Some b) o) (h c) ∙ placed_or (cell_eq d c) (Some b) (place past c)
place_after past (edit.MoveCell d b) a c r v h =
    let none = no_check (move_cell_checks past d b) (Ok answer.Done) a v in
    let there : is_some (place_in r d) ≡ true = ap is_some (h d) ∙ not-false (is_registered past d) none.1.0 in
    place_in_moved d b c r there ∙ ap (λ o. cond (cell_eq d c) (Some b) o) (h c) ∙ placed_or (cell_eq d c) (Some b) (place past c)
place_after past (edit.RemoveCell d) a c r v h = place_in_without_cell d c r ∙ ap (λ o. cond (cell_eq d c) None o) (h c) ∙ placed_or (cell_eq d c) None (place past c)
place_after past other a c r v h = h c

bsc_then : (e : Event) (b : ℕ) (r : State) (before : Bool) → has_bsc r b ≡ before → has_bsc (register_then e r) b ≡ unwrap_or (by_edit (bsc_mark b) e) before
bsc_then (event.Edit e) b r before h = bsc_after e b r before h
bsc_then other b r before h = h

place_then : (network : Network) (past : Past) (e : Event) (a : Answer) (c : Cell) (r : State) → answered network past e ≡ Ok a → ((d : Cell) → place_in r d ≡ place past d) → place_in (register_then e r) c ≡ unwrap_or (by_edit (place_mark c) e) (place past c)
place_then network past (event.Edit e) a c r v h = place_after past e a c r v h
place_then network past other a c r v h = h c

-- the register stays tied to the past, one entry further
pub register_with : (network : Network) (e : Entry) (before : Past) (r : State) → answered network before e.event ≡ Ok e.answer → IsRegisterOf before r → IsRegisterOf (After e before) (register_then e.event r)
register_with network e before r v kept = record {
  unfolded = kept.unfolded;
  bscs = λ b. bsc_then e.event b r (is_bsc before b) (kept.bscs b);
  places = λ c. place_then network before e.event e.answer c r v kept.places;
}

-- How many there are.

pub nat_apart : (x y : ℕ) → ltb x y ≡ true → nat_eq x y ≡ false
nat_apart x y h = turned nat_eq unsigned_Decides x y ∙ ltb_other x x y (eq-eqb x x refl) h

-- as many BSCs stand in the register
pub bscs_counted : (past : Past) (r : State) → IsRegister r → IsRegisterOf past r → length r.bscs ≡ bsc_count past
bscs_counted past r sound kept = sym (same_count nat_eq unsigned_Decides (is_bsc past) (bscs past) r.bscs (named_once nat_eq added_bsc (λ base. base.bscs) refl past kept.unfolded) (ascending_once nat_eq ltb nat_apart r.bscs sound.bscs_ascend) members)
  where
    members : (b : ℕ) → list_any (nat_eq b) r.bscs ≡ (is_bsc past b && list_any (nat_eq b) (bscs past))
    members b = any_turned nat_eq unsigned_Decides b r.bscs ∙ kept.bscs b ∙ both_or_it (is_bsc past b) (list_any (nat_eq b) (bscs past)) (bsc_named past kept.unfolded b)

pub cell_apart : (x y : Cell) → cell_lt x y ≡ true → cell_eq x y ≡ false
cell_apart x y h = turned cell_eq cell_decides x y ∙ cell_lt_other x x y ((cell_decides x x).1 refl) h

pub cell_among : (c : Cell) (ps : List Placed) → list_any (λ d. cell_eq d c) (map cell_of ps) ≡ list_any (λ p. cell_eq p.cell c) ps
cell_among c [] = refl
cell_among c (p ∷ ps) = ap (λ t. cell_eq p.cell c || t) (cell_among c ps)

place_is : (o : Option ℕ) → is_some o ≡ true → (b : ℕ) × (is_place o b ≡ true)
place_is None h = cc
place_is (Some b) h = (b, eq-eqb b b refl)

-- a registered cell is one of those that were ever registered
pub known_cell : (past : Past) → IsUnfolded past → (c : Cell) → is_registered past c ≡ true → list_any (cell_eq c) (cells past) ≡ true
known_cell past unfolded c h = let there = place_is (place past c) h in known_place past unfolded there.0 c there.1

-- as many cells stand in the register
pub cells_counted : (past : Past) (r : State) → IsRegister r → IsRegisterOf past r → length r.cells ≡ cell_count past
cells_counted past r sound kept = sym (length-map r.cells cell_of) ∙ sym (same_count cell_eq cell_decides (is_registered past) (cells past) (map cell_of r.cells) (named_once cell_eq added_cell (λ base. base.cells) refl past kept.unfolded) (ascending_once cell_eq cell_lt cell_apart (map cell_of r.cells) (ascending_map placed_lt cell_lt cell_of (λ x y h. h) r.cells sound.cells_ascend)) members)
  where
    members : (c : Cell) → list_any (cell_eq c) (map cell_of r.cells) ≡ (is_registered past c && list_any (cell_eq c) (cells past))
    members c =
        any_turned cell_eq cell_decides c (map cell_of r.cells) ∙ cell_among c r.cells ∙ sym (is_some_place_among c r.cells) ∙ ap is_some (kept.places c) ∙ both_or_it (is_registered past c) (list_any (cell_eq c) (cells past)) (known_cell past kept.unfolded c)

-- Whether a BSC has cells.

any_which : (p : Cell → Bool) (cs : List Cell) → list_any p cs ≡ true → (c : Cell) × (p c ≡ true)
any_which p [] h = cc
any_which p (c ∷ cs) h = step (any_which p cs) (p c) refl h
  where
    step : (list_any p cs ≡ true → (d : Cell) × (p d ≡ true)) → (t : Bool) → p c ≡ t → (t || list_any p cs) ≡ true → (d : Cell) × (p d ≡ true)
    step rest true e g = (c, e)
    step rest false e g = rest g

place_some : (o : Option ℕ) (b : ℕ) → is_place o b ≡ true → o ≡ Some b
place_some None b h = cc
place_some (Some d) b h = ap (λ k. Some k) (eqb-true d b h)

pub cells_there : (past : Past) (r : State) (b : ℕ) → IsRegister r → IsRegisterOf past r → register.has_cells r b ≡ has_cells past b
cells_there past r b sound kept = step (register.has_cells r b) refl (has_cells past b) refl
  where
    at_place : (c : Cell) → place_in r c ≡ Some b → has_cells past b ≡ true
    at_place c e =
        let there : is_place (place past c) b ≡ true = ap (λ o. is_place o b) (sym (kept.places c) ∙ e) ∙ eq-eqb b b refl in
        any_at cell_eq cell_decides (λ d. is_place (place past d) b) c (cells past) there (known_place past kept.unfolded b c there)

    step : (t : Bool) → register.has_cells r b ≡ t → (u : Bool) → has_cells past b ≡ u → t ≡ u
    step true e true f = refl
    step true e false f =
        let which = place_from_has_cells r b sound e in
        let there : has_cells past b ≡ true = at_place which.0 which.1 in
        cc
    step false e true f =
        let which = any_which (λ d. is_place (place past d) b) (cells past) f in
        let there : register.has_cells r b ≡ true = has_cells_from_place r which.0 b (kept.places which.0 ∙ place_some (place past which.0) b which.1) in
        cc
    step false e false f = refl
