-- What is listed of what is kept is what the past says.
use Rattle.std.proofs.Common.{◌≡◌, eq-eqb, eqb-true, ℕ, ◌+◌, ◌<◌, Bool, true, false, ◌&&◌, ◌||◌, List, [], ◌∷◌, ◌++◌, Option, Some, None, length, map, take, get_or, refl, sym, ◌∙◌, ap}
use Rattle.std.proofs.lemmas.List.{map-append, take_more}
use Rattle.std.specs.Prelude.{if◌then◌else◌}
use Rattle.std.specs.List.{flat_map, list_any}
use Rattle.std.specs.Option.{option_and_then, option_map, option_to_list}
use Rattle.areas.specs.Areas.{selects, selectors_of}
use Rattle.areas.specs.declared.area.Area.{Area}
use Rattle.areas.specs.declared.selector.Selector.{Selector}
use Rattle.areas.specs.declared.selector.Selector.TheVariants as selector
use Rattle.common.specs.declared.cell.Cell.{Cell}
use Rattle.kept_tables.specs.Tables.{Tables}
use Rattle.mirror.specs.Line.{state_of}
use Rattle.mirror.specs.Table.{down_at, downs_of, is_that_place, line_at}
use Rattle.kept_tables.specs.View.{key_of}
use Rattle.mirror.specs.declared.line_key.LineKey.{LineKey}
use Rattle.mirror.specs.declared.line.Line.{Line}
use Rattle.cell_register.specs.Register.{is_place}
use Rattle.common.specs.OrderLaws.{find_passes}
use Rattle.warning_book.specs.Book.{State, current_of, has_number, kind_of, warning_of}
use Rattle.warning_book.specs.VersionLaws.{current_among}
use Rattle.warning_book.specs.declared.kind.Kind.{Kind}
use Rattle.warning_book.specs.declared.warning.Warning.{Warning}
use Rattle.centre_answers.specs.Asked.{Tells}
use Rattle.centre_answers.specs.Failing.{AreDownsOf, IsWanted}
use Rattle.centre_events.specs.Cover.{covers, is_covered}
use Rattle.centre_events.specs.Down.{is_down}
use Rattle.centre_events.specs.Facts.{key_state}
use Rattle.centre_events.specs.Kept.{AreAreasOf}
use Rattle.centre_events.specs.Past.{Past}
use Rattle.centre_events.specs.Places.{place}
use Rattle.centre_events.specs.Plan.{wanted}
use Rattle.centre_events.specs.Warnings.{book_of}
use Rattle.centre_past.specs.Idle.{AsBefore}
use Rattle.centre_past.specs.Lists.{failed_at, failed_in, failed_row, failed_rows, failure_if, failure_of, registered_cells}
use Rattle.centre_past.specs.declared.lists.failure.Failure.{Failure}
use Rattle.centre_past.proofs.AnyLemmas.{any_same}
use Rattle.centre_past.proofs.VersionLemmas.{legal_updates, version_state_is}
use Rattle.centre_events.proofs.PastLemmas.{any_image}
use Rattle.centre_answers.proofs.TableLemmas.{line_kept}

-- one row more
pub mapped_more : {X Y : Type 0} (f : X → Y) (xs : List X) (i : ℕ) (d x : X) (out now : List Y) (y : Y) → i < length xs → x ≡ get_or xs i d → out ≡ map f (take i xs) → y ≡ f x → now ≡ out ++ y ∷ [] → now ≡ map f (take (i + 1) xs)
mapped_more f xs i d x out now y h is before row next =
    next
    ∙ ap (λ l. l ++ y ∷ []) before
    ∙ ap (λ z. map f (take i xs) ++ z ∷ []) (row ∙ ap f is)
    ∙ sym (map-append f (take i xs) (get_or xs i d ∷ []))
    ∙ ap (map f) (sym (take_more xs i d h))

-- what the areas of a warning cover, by what is kept of them
pub covered_kept : (past : Past) (l : List Area) (names : List (List ℕ)) (c : Cell) → AreAreasOf past l → list_any (λ s. selects s c) (map (selectors_of l) names) ≡ is_covered past names c
covered_kept past l names c tied =
    any_image (λ s. selects s c) (selectors_of l) names
    ∙ any_same (λ a. selects (selectors_of l a) c) (λ a. covers past a c) (λ a. λ i. tied.selectors a (selector.Cell c) i || tied.selectors a (selector.Lac c.lac) i) names

-- why the current version failed, as the tables tell it
pub failure_kept : (past : Past) (t u : Tables) (b : ℕ) (c : Cell) (w : Warning) (s : ℕ) → Tells past t → AreDownsOf past t → AsBefore t u → warning_of (book_of past) w.number ≡ Some w → current_of w ≡ Some s → failure_if (down_at u.lines (kind_of w) b c) (state_of (line_at u.lines b c w.number) s).presence (state_of (line_at u.lines b c w.number) s).hold ≡ failure_of past b w c s
failure_kept past t u b c w s tells downs same found current =
    λ i. failure_if (down i) (state i).presence (state i).hold
  where
    down : down_at u.lines (kind_of w) b c ≡ is_down past (kind_of w) b c
    down = ap (λ ds. list_any (is_that_place b c) (downs_of (kind_of w) ds)) same.downs ∙ downs (kind_of w) b c

    state : state_of (line_at u.lines b c w.number) s ≡ key_state past b c w.message_id s
    state =
        ap (λ (line : Line). state_of line s) (line_kept past t u b c w tells same found)
        ∙ version_state_is past b c w s (legal_updates tells.settings past tells.legal w.number w found) (current_among w s current)

-- the row of a cell at its place, where the warning is wanted wherever one of its areas covers
pub failed_is : (past : Past) (w : Warning) (c : Cell) (b s : ℕ) (covered : Bool) → w.active ≡ true → current_of w ≡ Some s → is_place (place past c) b ≡ true → is_covered past w.areas c ≡ covered → failed_at past w c b ≡ (if covered then option_map (failed_row b c) (failure_of past b w c s) else None)
failed_is past w c b s covered active current placed is =
    ap (λ o. option_map (failed_row b c) (option_and_then (failure_of past b w c) o)) wanted_is ∙ step covered
  where
    wanted_is : wanted past b w c ≡ (if covered then Some s else None)
    wanted_is = λ i. if active i && (placed i && is i) then current i else None

    step : (t : Bool) → option_map (failed_row b c) (option_and_then (failure_of past b w c) (if t then Some s else None)) ≡ (if t then option_map (failed_row b c) (failure_of past b w c s) else None)
    step true = refl
    step false = refl

-- nothing of a warning that is not wanted anywhere failed
pub failed_nowhere : (past : Past) (w : Warning) → (if w.active then current_of w else None) ≡ None → failed_rows past w ≡ []
failed_nowhere past w h = none (registered_cells past)
  where
    never : (t : Bool) (v : Bool) (o : Option ℕ) → (if t then o else None) ≡ None → (if t && v then o else None) ≡ None
    never true true o e = e
    never true false o e = refl
    never false v o e = refl

    not_at : (c : Cell) (b : ℕ) → failed_at past w c b ≡ None
    not_at c b = ap (λ o. option_map (failed_row b c) (option_and_then (failure_of past b w c) o)) (never w.active (is_place (place past c) b && is_covered past w.areas c) (current_of w) h)

    not_in : (c : Cell) (o : Option ℕ) → option_to_list (option_and_then (failed_at past w c) o) ≡ []
    not_in c None = refl
    not_in c (Some b) = ap option_to_list (not_at c b)

    none : (cs : List Cell) → flat_map (failed_in past w) cs ≡ []
    none [] = refl
    none (c ∷ cs) = λ i. not_in c (place past c) i ++ none cs i

-- the same, as a function finds it: why the version failed, if it did, and whether an area covers the cell
pub failed_told : (past : Past) (t u : Tables) (w : Warning) (s : ℕ) (coverages : List (List Selector)) (b : ℕ) (c : Cell) (k : LineKey) (kind : Kind) (why : Option Failure) (covered : Bool) → Tells past t → AreDownsOf past t → AsBefore t u → IsWanted past w s coverages → place past c ≡ Some b → k ≡ key_of b c w.number → kind ≡ kind_of w → why ≡ failure_if (down_at u.lines kind k.bsc k.cell) (state_of (line_at u.lines k.bsc k.cell k.warning) s).presence (state_of (line_at u.lines k.bsc k.cell k.warning) s).hold → covered ≡ list_any (λ sels. selects sels c) coverages → failed_at past w c b ≡ (if covered then option_map (failed_row b c) why else None)
failed_told past t u w s coverages b c k kind why covered tells downs same wants placed key kind_is told is =
    failed_is past w c b s (is_covered past w.areas c) wants.active wants.current (ap (λ o. is_place o b) placed ∙ eq-eqb b b refl) refl
    ∙ (λ i. if sym (is ∙ wants.covered c) i then option_map (failed_row b c) (sym found i) else None)
  where
    found : why ≡ failure_of past b w c s
    found =
        told
        ∙ (λ i. failure_if (down_at u.lines (kind_is i) (key i).bsc (key i).cell) (state_of (line_at u.lines (key i).bsc (key i).cell (key i).warning) s).presence (state_of (line_at u.lines (key i).bsc (key i).cell (key i).warning) s).hold)
        ∙ failure_kept past t u b c w s tells downs same wants.found wants.current

-- where it didn't fail there is no row, whether or not an area covers the cell
pub no_row : (covered : Bool) (b : ℕ) (c : Cell) → (if covered then option_map (failed_row b c) None else None) ≡ None
no_row true b c = refl
no_row false b c = refl

-- a version that is wanted wherever an area covers
pub wanted_parts : (w : Warning) (s : ℕ) → (if w.active then current_of w else None) ≡ Some s → (w.active ≡ true) × (current_of w ≡ Some s)
wanted_parts w s h = step w.active refl h
  where
    step : (t : Bool) → w.active ≡ t → (if t then current_of w else None) ≡ Some s → (w.active ≡ true) × (current_of w ≡ Some s)
    step true e g = (e, g)
    step false e g = cc

-- a warning that is found has the number that was looked for
pub numbered : (st : State) (n : ℕ) (w : Warning) → warning_of st n ≡ Some w → warning_of st w.number ≡ Some w
numbered st n w found = ap (warning_of st) (eqb-true w.number n (find_passes (has_number n) st.warnings w found)) ∙ found
