-- Where what happens leaves blank lines blank, only the lines that are kept may change.
use Rattle.std.proofs.Common.{◌≡◌, ℕ, Bool, true, false, ◌&&◌, ◌||◌, nat_eq, ltb, List, [], ◌∷◌, Option, Some, None, cond, length, refl, sym, ◌∙◌, ap, arith}
use Rattle.std.specs.Prelude.{find, if◌then◌else◌}
use Rattle.std.proofs.lemmas.Bool.Decides.{nat_tests}
use Rattle.std.specs.List.{list_any}
use Rattle.std.specs.Map.{lookup}
use Rattle.std.specs.Option.{unwrap_or}
use Rattle.areas.specs.declared.area.Area.{Area}
use Rattle.common.specs.OnceLaws.{ascending_once}
use Rattle.common.specs.Order.{is_ascending}
use Rattle.common.specs.OrderLaws.{ascending_map}
use Rattle.kept_tables.specs.Tables.{Tables}
use Rattle.kept_tables.specs.declared.spot.Spot.{Spot}
use Rattle.mirror.specs.Blank.{is_blank, line_eq}
use Rattle.mirror.specs.BlankLaws.{blank_decides, line_decides}
use Rattle.mirror.specs.Line.{blank_line}
use Rattle.mirror.specs.Table.{is_slot, line_at, down_at}
use Rattle.mirror.specs.declared.line.Line.{Line}
use Rattle.mirror.specs.declared.line_key.LineKey.{LineKey}
use Rattle.warning_book.specs.Book as book
use Rattle.warning_book.specs.Book.{has_number, number_lt, numbers, warning_of}
use Rattle.warning_book.specs.declared.warning.Warning.{Warning}
use Rattle.coverage_plan.specs.declared.edit.Edit.{Edit}
use Rattle.coverage_plan.specs.declared.edit.Edit.TheVariants as edit
use Rattle.centre_events.specs.Down.{down_mark}
use Rattle.centre_past.specs.Facts.{facts_of}
use Rattle.centre_lines.specs.Following.{AreInBook, Happens, LinesAreOf, bearing, is_idle, keeps_down, leaves_blank, leaves_cover, line_now, may_change, stays}
use Rattle.centre_past.specs.Idle.{AsBefore}
use Rattle.centre_past.specs.IsKept.{IsKept}
use Rattle.centre_past.specs.Legal.{Legal}
use Rattle.centre_past.specs.Reach.{IsReach, edit_reach, reach_of}
use Rattle.centre_events.specs.Past.{Past}
use Rattle.centre_events.specs.Warnings.{book_of, kind_in, warnings_of}
use Rattle.centre_events.specs.declared.answer.Answer.{Answer}
use Rattle.centre_events.specs.declared.answer.Answer.TheVariants.{Listed}
use Rattle.centre_events.specs.declared.event.Event.{Event}
use Rattle.centre_events.specs.declared.event.Event.TheVariants as event
use Rattle.centre_events.specs.declared.settings.Settings.{Settings}
use Rattle.centre_past.specs.declared.kept.Kept.{Kept}
use Rattle.centre_lines.proofs.BlankLineLemmas.{unchanged}
use Rattle.centre_lines.proofs.ReachedWarningLemmas.{all_listed}
use Rattle.centre_past.proofs.RegisterLemmas.{nat_apart}
use Rattle.centre_past.proofs.WarningLemmas.{legal_sound}
use Rattle.warning_book.specs.declared.kind.Kind.{Kind}

-- The numbers of the warnings of a book ascend, and have each that is found.

pub numbers_ascend : (ws : List Warning) → is_ascending number_lt ws ≡ true → is_ascending ltb (numbers ws) ≡ true
numbers_ascend ws h = ascending_map number_lt ltb (λ w. w.number) (λ x y before. before) ws h

pub number_there : (n : ℕ) (ws : List Warning) (w : Warning) → find (has_number n) ws ≡ Some w → list_any (nat_eq n) (numbers ws) ≡ true
number_there n [] w h = cc
number_there n (v ∷ ws) w h = step (nat_eq v.number n) (nat_eq n v.number) (turn v.number n) (number_there n ws w) h
  where
    turn : (x y : ℕ) → nat_eq x y ≡ nat_eq y x
    turn x y = grind (arith, nat_tests)

    step : (t u : Bool) → t ≡ u → (find (has_number n) ws ≡ Some w → list_any (nat_eq n) (numbers ws) ≡ true) → cond t (Some v) (find (has_number n) ws) ≡ Some w → (u || list_any (nat_eq n) (numbers ws)) ≡ true
    step true true e rest g = refl
    step true false e rest g = cc
    step false true e rest g = refl
    step false false e rest g = rest g

-- A line that changes is one that may, and its warning is in the book.

itself : (line : Line) → line_eq line line ≡ true
itself line = (line_decides line line).1 refl

pub changes_some : (h : Happens) (l : List Area) (st : book.State) (t : Tables) (k : LineKey) → leaves_blank h.event h.answer ≡ true → ((kind : Kind) → keeps_down (down_mark kind k.bsc k.cell h.event h.answer) (down_at t.lines kind k.bsc k.cell) ≡ true) → stays h l st t k ≡ false → (may_change h.event (line_at t.lines k.bsc k.cell k.warning) ≡ true) × (list_any (nat_eq k.warning) (numbers st.warnings) ≡ true)
changes_some h l st t k blanks down changes = (kept (may_change h.event line) refl, booked (warning_of st k.warning) refl)
  where
    line : Line
    line = line_at t.lines k.bsc k.cell k.warning

    stay : line_eq (line_now h st.warnings k.bsc k.cell (warning_of st k.warning) line) line ≡ true → false ≡ true
    stay e =
        sym changes ∙ ap (λ x. line_eq (line_now h st.warnings k.bsc k.cell (warning_of st k.warning) line) line && (x || is_idle l (warning_of st k.warning) k.cell line)) (down (kind_in (warning_of st k.warning))) ∙ ap (λ x. x && true) e

    kept : (x : Bool) → may_change h.event line ≡ x → x ≡ true
    kept true e = refl
    kept false e = stay (sym (unchanged h st.warnings k.bsc k.cell (warning_of st k.warning) line blanks e))

    booked : (o : Option Warning) → warning_of st k.warning ≡ o → list_any (nat_eq k.warning) (numbers st.warnings) ≡ true
    booked None e = let no : false ≡ true = stay (ap (λ x. line_eq (line_now h st.warnings k.bsc k.cell x line) line) e ∙ itself line) in cc
    booked (Some w) e = number_there k.warning st.warnings w e

-- What is kept of a legal past: each line that isn't blank is of a warning in the book.
pub in_book : (past : Past) (s : Kept) → IsKept past s → AreInBook s.plan.book s.tables
in_book past s kept b c n h = step (warning_of (book_of past) n) refl
  where
    step : (o : Option Warning) → warning_of (book_of past) n ≡ o → list_any (nat_eq n) (numbers s.plan.book.warnings) ≡ true
    step None e =
        let blank : line_at s.tables.lines b c n ≡ blank_line = kept.tables.lines (record { bsc = b; cell = c; warning = n }) ∙ ap (λ o. (facts_of past b c o).line) e in
        let no : true ≡ false = sym ((blank_decides (line_at s.tables.lines b c n)).1 blank) ∙ h in
        cc
    step (Some w) e = ap (λ (st : book.State). list_any (nat_eq n) (numbers st.warnings)) kept.booked ∙ number_there n (warnings_of past) w e

-- the same tables have the same lines
pub lines_of_as : (ns : List ℕ) (t u : Tables) → AsBefore t u → LinesAreOf ns t → LinesAreOf ns u
lines_of_as ns t u same h b c n blank = h b c n (ap (λ ls. is_blank (unwrap_or (lookup (is_slot b c n) ls) blank_line)) (sym same.lines) ∙ blank)

-- An edit that leaves what each area covers bears on the lines of all warnings.

cover_all : (past : Past) (e : Edit) → leaves_cover e ≡ true → (edit_reach past e).warnings ≡ numbers (warnings_of past)
cover_all past (edit.RemoveBsc b) h = sym (all_listed past (book_of past) (numbers (warnings_of past)) refl refl)
cover_all past (edit.AddCell c b) h = sym (all_listed past (book_of past) (numbers (warnings_of past)) refl refl)
cover_all past (edit.MoveCell c b) h = sym (all_listed past (book_of past) (numbers (warnings_of past)) refl refl)
cover_all past (edit.RemoveCell c) h = sym (all_listed past (book_of past) (numbers (warnings_of past)) refl refl)
cover_all past (edit.AddBsc b) h = cc
cover_all past (edit.AddArea a) h = cc
cover_all past (edit.DropArea a) h = cc
cover_all past (edit.Put a s) h = cc
cover_all past (edit.Cut a s) h = cc
cover_all past (edit.Issue notice areas) h = cc
cover_all past (edit.Update n content) h = cc
cover_all past (edit.Widen n a) h = cc
cover_all past (edit.Narrow n a) h = cc
cover_all past (edit.Stop n) h = cc
cover_all past (edit.Forget n) h = cc

-- so each line that isn't blank is of one of those
pub cover_reached : (past : Past) (s : Kept) → IsKept past s → (e : Edit) (spots : List Spot) (ns ms : List ℕ) → ms ≡ ns → IsReach (record { spots = spots; warnings = ns }) (edit_reach past e) → leaves_cover e ≡ true → LinesAreOf ms s.tables
cover_reached past s kept e spots ns ms same reach leaves b c n h =
    ap (list_any (nat_eq n)) same
    ∙ reach.warnings n
    ∙ ap (list_any (nat_eq n)) (cover_all past e leaves ∙ ap (λ (x : book.State). numbers x.warnings) (sym kept.booked))
    ∙ in_book past s kept b c n h

-- An indication and a Retry bear on all warnings.

all_reached : (past : Past) (e : Event) (a : Answer) → leaves_blank e a ≡ true → (reach_of past e a).warnings ≡ numbers (warnings_of past)
all_reached past (event.Retry b) a h = sym (all_listed past (book_of past) (numbers (warnings_of past)) refl refl)
all_reached past (event.Report b g message) (Listed cells) h = sym (all_listed past (book_of past) (numbers (warnings_of past)) refl refl)
all_reached past (event.Report b g message) a h = cc
all_reached past (event.Edit x) a h = cc
all_reached past (event.LinkUp b) a h = cc
all_reached past (event.LinkDown b g) a h = cc
all_reached past (event.Send b g) a h = cc
all_reached past (event.Ask b g n after) a h = cc

pub bears_on_all : (settings : Settings) (past : Past) → Legal settings past → (e : Event) (a : Answer) (spots : List Spot) (ns : List ℕ) → IsReach (record { spots = spots; warnings = ns }) (reach_of past e a) → IsReach (record { spots = spots; warnings = bearing e a (book_of past) ns }) (reach_of past e a)
bears_on_all settings past legal e a spots ns reach = step (leaves_blank e a) refl
  where
    all : leaves_blank e a ≡ true → numbers (warnings_of past) ≡ (reach_of past e a).warnings
    all h = sym (all_reached past e a h)

    step : (t : Bool) → leaves_blank e a ≡ t → IsReach (record { spots = spots; warnings = if t then numbers (warnings_of past) else ns }) (reach_of past e a)
    step true h = record {
      spots = reach.spots;
      warnings = λ n. ap (list_any (nat_eq n)) (all h);
      spots_once = reach.spots_once;
      warnings_once = ascending_once nat_eq ltb nat_apart (numbers (warnings_of past)) (numbers_ascend (warnings_of past) (legal_sound settings past legal).ordered);
      spots_counted = reach.spots_counted;
      warnings_counted = ap length (all h);
    }
    step false h = reach
