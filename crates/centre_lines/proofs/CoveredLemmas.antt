-- Where an edit leaves the areas that cover a cell, those that were read of its lines are those that cover it.
use Rattle.std.proofs.Common.{◌≡◌, ℕ, Bool, true, false, not, List, [], ◌∷◌, Option, Some, None, filter, map, refl, sym, ◌∙◌, ap, subst, zero, suc, ◌<◌, length, get_or, nat_eq, arith}
use Rattle.std.specs.Prelude.{find, if◌then◌else◌}
use Rattle.std.proofs.lemmas.Bool.Decides.{nat_tests}
use Rattle.std.specs.Option.{option_map}
use Rattle.areas.specs.Areas as kept
use Rattle.areas.specs.declared.area.Area.{Area}
use Rattle.cell_register.specs.Register as register
use Rattle.cell_register.specs.Register.{is_place, place_in}
use Rattle.common.specs.declared.cell.Cell.{Cell}
use Rattle.coverage_board.specs.AreaSets.{names_at}
use Rattle.coverage_board.specs.Parts.{has_areas}
use Rattle.coverage_plan.specs.Plan.{State}
use Rattle.kept_tables.specs.Tables.{Tables}
use Rattle.kept_tables.specs.declared.spot.Spot.{Spot}
use Rattle.mirror.specs.Table.{down_at}
use Rattle.mirror.specs.declared.line.Line.{Line}
use Rattle.mirror.specs.declared.line_key.LineKey.{LineKey}
use Rattle.warning_book.specs.Book as book
use Rattle.warning_book.specs.Book.{changed_if, edited, has_number, stopped, updated, warning_of}
use Rattle.warning_book.specs.Laws.{KeepsNumber, found_edited}
use Rattle.warning_book.specs.declared.warning.Warning.{Warning}
use Rattle.centre_events.specs.Cover.{covers}
use Rattle.centre_past.specs.Facts.{facts_of}
use Rattle.centre_events.specs.Kept.{AreAreasOf}
use Rattle.centre_events.specs.Past.{Past, After}
use Rattle.centre_events.specs.Warnings.{book_of, book_then, kind_in}
use Rattle.coverage_plan.specs.Edited.{book_after}
use Rattle.centre_events.specs.declared.answer.Answer.{Answer}
use Rattle.centre_events.specs.declared.event.Event.{Event}
use Rattle.centre_events.specs.declared.event.Event.TheVariants as event
use Rattle.coverage_plan.specs.declared.edit.Edit.{Edit}
use Rattle.coverage_plan.specs.declared.edit.Edit.TheVariants as edit
use Rattle.centre_lines.specs.Found.{facts_before, head_of}
use Rattle.centre_lines.specs.Following.{AreCovered, Bears, Happens, change_of, covered_change, before_past, leaves_areas, leaves_areas_then, line_now}
use Rattle.centre_past.specs.State.{AreCovering, covered_facts, facts_from}
use Rattle.centre_lines.specs.declared.line_before.LineBefore.{LineBefore}
use Rattle.centre_past.proofs.FactsLemmas.{covers_same, filter_pointwise, wanted_there}

-- there are areas just where their number isn't 0
pub some_areas : (areas : List (List ℕ)) → has_areas areas ≡ not (nat_eq (length areas) 0)
some_areas [] = refl
some_areas (a ∷ rest) = let some : nat_eq (length (a ∷ rest)) 0 ≡ false = grind (arith, nat_tests) in ap not (sym some)

-- what is read of a line by the areas that cover its cell

pub covered_is : (r : register.State) (l : List Area) (down : Bool) (b : ℕ) (c : Cell) (line : Line) (names : List (List ℕ)) (w : Warning) → names ≡ filter (λ a. kept.covers l a c) w.areas → covered_facts r down b c line names (Some w) ≡ facts_from r l down b c line (Some w)
covered_is r l down b c line names w are = rw (wanted_there r l b w c names are, are) refl

-- so it is where these are the areas with the digits of a warning as it was before an edit
pub before_is : (r : register.State) (l : List Area) (down : Bool) (b : ℕ) (c : Cell) (line : Line) (here : Bool) (bits : ℕ) (w : Warning) → here ≡ is_place (place_in r c) b → names_at bits w.areas ≡ filter (λ a. kept.covers l a c) w.areas → facts_before line down here bits (Some (head_of w)) ≡ facts_from r l down b c line (Some w)
before_is r l down b c line here bits w is are =
    (λ i. facts_before line down (is i) bits (Some (head_of w))) ∙ counted ∙ covered_is r l down b c line (names_at bits w.areas) w are
  where
    counted : facts_before line down (is_place (place_in r c) b) bits (Some (head_of w)) ≡ covered_facts r down b c line (names_at bits w.areas) (Some w)
    counted = rw (some_areas (names_at bits w.areas)) refl

covered_one : (r : register.State) (l : List Area) (down : Bool) (b : ℕ) (c : Cell) (line : Line) (names : List (List ℕ)) (o : Option Warning) → AreCovering l c names o → covered_facts r down b c line names o ≡ facts_from r l down b c line o
covered_one r l down b c line names None are = refl
covered_one r l down b c line names (Some w) are = covered_is r l down b c line names w are

pub covered_before : (h : Happens) (p : State) (t : Tables) (x : LineBefore) → AreCovering p.areas x.key.cell x.before.areas (warning_of p.book x.key.warning) → covered_change h p t x ≡ change_of h p t x
covered_before h p t x are =
    λ i. record { key = x.key; before = x.before; after = covered_one p.register p.areas (down_at t.lines (kind_in (warning_of p.book x.key.warning)) x.key.bsc x.key.cell) x.key.bsc x.key.cell (line_now h p.book.warnings x.key.bsc x.key.cell (warning_of p.book x.key.warning) x.before.line) x.before.areas (warning_of p.book x.key.warning) are i }

-- of the line at a place
pub covered_at : (l : List Area) (st : book.State) (xs : List LineBefore) (i : ℕ) (x : LineBefore) → AreCovered l st xs → i < length xs → x ≡ get_or xs i x → AreCovering l x.key.cell x.before.areas (warning_of st x.key.warning)
covered_at l st [] i x are below is = grind (arith, below)
covered_at l st (y ∷ ys) zero x are below is = rw is are.0
covered_at l st (y ∷ ys) (suc i) x are below is = covered_at l st ys i x are.1 (grind (arith, below)) is

-- the areas of a warning that such an edit leaves in the book are those that it had

-- the warnings have the same areas, if there are any
abbrev SameAreas : Option Warning → Option Warning → Type 0
SameAreas o None = Unit {0}
SameAreas None (Some w) = false ≡ true
SameAreas (Some v) (Some w) = v.areas ≡ w.areas

same_itself : (o : Option Warning) → SameAreas o o
same_itself None = tt
same_itself (Some w) = refl

same_edited : (n : ℕ) (f : Warning → Warning) → ((w : Warning) → w.areas ≡ (f w).areas) → (o : Option Warning) → SameAreas o (option_map (changed_if n f) o)
same_edited n f keeps None = tt
same_edited n f keeps (Some w) = step (has_number n w)
  where
    step : (t : Bool) → w.areas ≡ (if t then f w else w).areas
    step true = keeps w
    step false = refl

edited_areas : (n m : ℕ) (f : Warning → Warning) → KeepsNumber f → ((w : Warning) → w.areas ≡ (f w).areas) → (ws : List Warning) → SameAreas (find (has_number m) ws) (find (has_number m) (edited n f ws))
edited_areas n m f number keeps ws =
    subst (SameAreas (find (has_number m) ws)) (sym (found_edited n m f number ws)) (same_edited n f keeps (find (has_number m) ws))

areas_left : (e : Edit) → leaves_areas e ≡ true → (st : book.State) (m : ℕ) → SameAreas (warning_of st m) (warning_of (book_after e st) m)
areas_left (edit.RemoveBsc b) leaves st m = same_itself (warning_of st m)
areas_left (edit.AddCell c b) leaves st m = same_itself (warning_of st m)
areas_left (edit.MoveCell c b) leaves st m = same_itself (warning_of st m)
areas_left (edit.RemoveCell c) leaves st m = same_itself (warning_of st m)
areas_left (edit.Update n content) leaves st m = edited_areas n m (updated content) (λ w. refl) (λ w. refl) st.warnings
areas_left (edit.Stop n) leaves st m = edited_areas n m stopped (λ w. refl) (λ w. refl) st.warnings
areas_left other leaves st m = cc

then_left : (e : Event) → leaves_areas_then e ≡ true → (st : book.State) (m : ℕ) → SameAreas (warning_of st m) (warning_of (book_then e st) m)
then_left (event.Edit e) leaves st m = areas_left e leaves st m
then_left other leaves st m = cc

-- and each area covers the cells that it did

edit_covers : (desk : ℕ) (e : Edit) (answer : Answer) (past : Past) → leaves_areas e ≡ true → (c : Cell) (a : List ℕ) → covers (After (record { desk = desk; event = event.Edit e; answer = answer }) past) a c ≡ covers past a c
edit_covers desk (edit.RemoveBsc b) answer past leaves c a = refl
edit_covers desk (edit.AddCell d b) answer past leaves c a = refl
edit_covers desk (edit.MoveCell d b) answer past leaves c a = refl
edit_covers desk (edit.RemoveCell d) answer past leaves c a = refl
edit_covers desk (edit.Update n content) answer past leaves c a = refl
edit_covers desk (edit.Stop n) answer past leaves c a = refl
edit_covers desk other answer past leaves c a = cc

then_covers : (desk : ℕ) (e : Event) (answer : Answer) (past : Past) → leaves_areas_then e ≡ true → (c : Cell) (a : List ℕ) → covers (After (record { desk = desk; event = e; answer = answer }) past) a c ≡ covers past a c
then_covers desk (event.Edit e) answer past leaves c a = edit_covers desk e answer past leaves c a
then_covers desk other answer past leaves c a = cc

-- so those that the past says of a line cover its cell

covering_past : (past new : Past) (l : List Area) → AreAreasOf new l → ((c : Cell) (a : List ℕ) → covers new a c ≡ covers past a c) → (b : ℕ) (c : Cell) (o p : Option Warning) → SameAreas o p → AreCovering l c (facts_of past b c o).areas p
covering_past past new l selected same b c o None areas = tt
covering_past past new l selected same b c None (Some w) areas = cc
covering_past past new l selected same b c (Some v) (Some w) areas =
    filter_pointwise (λ a. covers past a c) (λ a. kept.covers l a c) (λ a. sym (same c a) ∙ sym (covers_same new l selected c a)) v.areas ∙ ap (filter (λ a. kept.covers l a c)) areas

covered_keys : (past new : Past) (l : List Area) (st : book.State) → AreAreasOf new l → ((c : Cell) (a : List ℕ) → covers new a c ≡ covers past a c) → ((m : ℕ) → SameAreas (warning_of (book_of past) m) (warning_of st m)) → (keys : List LineKey) → AreCovered l st (map (before_past past) keys)
covered_keys past new l st selected same areas [] = tt
covered_keys past new l st selected same areas (k ∷ keys) =
    (covering_past past new l selected same k.bsc k.cell (warning_of (book_of past) k.warning) (warning_of st k.warning) (areas k.warning), covered_keys past new l st selected same areas keys)

-- where what happens bears on the lines that were held
pub bears_covered : {p : State} {t : Tables} {h : Happens} {spots : List Spot} {earlier : List LineBefore} (x : Bears p t h spots earlier) → leaves_areas_then h.event ≡ true → AreCovered p.areas p.book earlier
bears_covered {p = p} {t = t} {h = h} {spots = spots} {earlier = earlier} x leaves =
    subst (AreCovered p.areas p.book) (sym x.lines)
    (covered_keys x.past (After (record { desk = x.desk; event = h.event; answer = h.answer }) x.past) p.areas p.book x.selected (then_covers x.desk h.event h.answer x.past leaves)
    (λ m. subst (λ b. SameAreas (warning_of (book_of x.past) m) (warning_of b m)) (sym x.booked) (then_left h.event leaves (book_of x.past) m)) x.keys)

-- a warning's line that versions are read of keeps the areas that were read of it
areas_in : (r : register.State) (down : Bool) (b : ℕ) (c : Cell) (line : Line) (names : List (List ℕ)) (o : Option Warning) → nat_eq (length (covered_facts r down b c line names o).versions) 0 ≡ false → (covered_facts r down b c line names o).areas ≡ names
areas_in r down b c line names None e = cc
areas_in r down b c line names (Some w) e = refl

pub covered_areas : (h : Happens) (p : State) (t : Tables) (x : LineBefore) → nat_eq (length (covered_change h p t x).after.versions) 0 ≡ false → (covered_change h p t x).after.areas ≡ x.before.areas
covered_areas h p t x e = areas_in p.register (down_at t.lines (kind_in (warning_of p.book x.key.warning)) x.key.bsc x.key.cell) x.key.bsc x.key.cell (line_now h p.book.warnings x.key.bsc x.key.cell (warning_of p.book x.key.warning) x.before.line) x.before.areas (warning_of p.book x.key.warning) e
