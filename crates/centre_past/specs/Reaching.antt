-- How the reach of an event is found from what a centre keeps: tests of a cell at a BSC, lists of those that pass, and
-- what is told of the past.
use Rattle.std.specs.Prelude.{◌≡◌, ℕ, Bool, true, false, ◌&&◌, List, Option, Some, None, Ok, nat_eq, length}
use Rattle.std.specs.List.{list_any}
use Rattle.areas.specs.declared.area.Area.{Area}
use Rattle.cell_register.specs.Register as register
use Rattle.cell_register.specs.Register.{place_in, is_place, has_bsc}
use Rattle.common.specs.Order.{each_once}
use Rattle.common.specs.declared.cell.Cell.{Cell}
use Rattle.kept_tables.specs.View.{spot_eq}
use Rattle.kept_tables.specs.declared.spot.Spot.{Spot}
use Rattle.mirror.specs.Blank.{is_blank}
use Rattle.mirror.specs.Known.{is_known}
use Rattle.mirror.specs.Line.{blank_line}
use Rattle.mirror.specs.Table.{Table, line_at, has_line, down_at}
use Rattle.mirror.specs.declared.line_key.LineKey.{LineKey}
use Rattle.warning_book.specs.Book as book
use Rattle.warning_book.specs.declared.kind.Kind.{Kind}
use Rattle.centre_events.specs.Down.{is_down}
use Rattle.centre_past.specs.Facts.{facts}
use Rattle.centre_events.specs.InFlight.{in_flight}
use Rattle.centre_events.specs.Kept.{IsRegisterOf, AreAreasOf}
use Rattle.centre_past.specs.Legal.{Legal}
use Rattle.centre_events.specs.Links.{bsc_of}
use Rattle.centre_events.specs.Past.{Past}
use Rattle.centre_events.specs.Verdict.{answered, edit_answered}
use Rattle.centre_events.specs.Warnings.{book_of}
use Rattle.centre_events.specs.declared.answer.Answer.{Answer}
use Rattle.coverage_plan.specs.declared.edit.Edit.{Edit}
use Rattle.centre_events.specs.declared.event.Event.{Event}
use Rattle.centre_events.specs.declared.event.Event.TheVariants as event
use Rattle.centre_events.specs.declared.in_flight.InFlight.{InFlight}
use Rattle.centre_events.specs.declared.settings.Settings.{Settings}
use Rattle.coverage_plan.specs.declared.edit.Edit.TheVariants as edit

-- the cells at BSCs that pass the test, each once, and no others
pub record AreSpots (spots : List Spot) (p : Spot → Bool) : Type 0 where
  pub each : (s : Spot) → list_any (spot_eq s) spots ≡ p s
  pub once : each_once spot_eq spots ≡ true

-- the same cells at BSCs as these, each once
pub record AreThose (spots : List Spot) (these : List Spot) : Type 0 where
  pub same : (s : Spot) → list_any (spot_eq s) spots ≡ list_any (spot_eq s) these
  pub once : each_once spot_eq spots ≡ true
  pub counted : length spots ≡ length these

-- the cell is registered at its BSC
abbrev pub is_placed : register.State → Spot → Bool
is_placed r s = is_place (place_in r s.cell) s.bsc

-- its BSC is that one, and the cell is known there
abbrev pub is_known_at : Table → register.State → ℕ → Spot → Bool
is_known_at t r b s = nat_eq s.bsc b && is_known t r b s.cell

-- its BSC is one of those, and the cell is known there
abbrev pub is_known_among : Table → register.State → List ℕ → Spot → Bool
is_known_among t r bs s = list_any (λ b. nat_eq b s.bsc) bs && is_known t r s.bsc s.cell

-- the register, the book and the lines tell what a legal past says
pub record Told (settings : Settings) (past : Past) (r : register.State) (st : book.State) (t : Table) : Type 0 where
  pub legal : Legal settings past
  pub registered : IsRegisterOf past r
  pub booked : st ≡ book_of past
  pub downs : (k : Kind) (b : ℕ) (c : Cell) → down_at t k b c ≡ is_down past k b c
  pub lines : (k : LineKey) → line_at t k.bsc k.cell k.warning ≡ (facts past k).line

-- what holds of the lines of every table: a BSC has a line of a cell just where one of them isn't blank
pub record TellsLines (t : Table) : Type 0 where
  pub none : (b : ℕ) (c : Cell) → has_line t b c ≡ false → (w : ℕ) → line_at t b c w ≡ blank_line
  pub which : (b : ℕ) (c : Cell) → has_line t b c ≡ true → (w : ℕ) × (is_blank (line_at t b c w) ≡ false)

-- what is told before an edit that is accepted
pub record EditTold (settings : Settings) (past : Past) (r : register.State) (l : List Area) (st : book.State) (t : Table) (e : Edit) : Type 0 where
  pub told : Told settings past r st t
  pub selected : AreAreasOf past l
  pub answer : Answer
  pub accepted : edit_answered past e ≡ Ok answer

-- the event is no edit, and what is in flight to its BSC is that
abbrev pub IsFlightOf : Past → Option ℕ → Option InFlight → Type 0
IsFlightOf past None f = ⊥
IsFlightOf past (Some b) f = f ≡ in_flight past b

-- what is told before an event that is no edit, and that is answered so
pub record EventTold (settings : Settings) (past : Past) (r : register.State) (st : book.State) (t : Table) (f : Option InFlight) (e : Event) (a : Answer) : Type 0 where
  pub told : Told settings past r st t
  pub flying : IsFlightOf past (bsc_of e) f
  pub accepted : answered settings.network past e ≡ Ok a

-- the edit forgets a warning
abbrev pub is_forget : Edit → Bool
is_forget (edit.Forget n) = true
is_forget other = false

-- the event forgets a warning
abbrev pub forgets : Event → Bool
forgets (event.Edit e) = is_forget e
forgets other = false
