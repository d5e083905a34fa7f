-- How the lines are changed on which an event bears that is no edit: one after another, each as it is read.
use Rattle.std.specs.Prelude.{◌≡◌, ℕ, Bool, true, false, ◌||◌, List, Ok, if◌then◌else◌}
use Rattle.std.specs.List.{list_any}
use Rattle.common.specs.Order.{each_once}
use Rattle.common.specs.declared.cell.Cell.{Cell}
use Rattle.coverage_plan.specs.Plan.{State}
use Rattle.kept_tables.specs.Consistent.{Consistent}
use Rattle.kept_tables.specs.Tables.{Tables}
use Rattle.kept_tables.specs.View.{View, key_eq}
use Rattle.mirror.specs.Table.{down_at}
use Rattle.mirror.specs.declared.line_key.LineKey.{LineKey}
use Rattle.warning_book.specs.declared.kind.Kind.{Kind}
use Rattle.centre_events.specs.Down.{is_down}
use Rattle.centre_events.specs.Kept.{IsRegisterOf, AreAreasOf, is_edit}
use Rattle.centre_events.specs.Past.{Past, After}
use Rattle.centre_events.specs.Verdict.{verdict}
use Rattle.centre_events.specs.Warnings.{book_of}
use Rattle.centre_events.specs.declared.settings.Settings.{Settings}
use Rattle.centre_past.specs.Facts.{facts}
use Rattle.centre_past.specs.Links.{up_before}
use Rattle.centre_past.specs.Legal.{Legal}
use Rattle.centre_lines.specs.Following.{Happens, entry_of, flight_before}

-- of the lines that pass the test what the one past says, of the others what the other says
abbrev pub halfway : Past → Past → (LineKey → Bool) → View
halfway past new done k = if done k then facts new k else facts past k

-- these lines, and those that pass the test
abbrev pub with_keys : (LineKey → Bool) → List LineKey → LineKey → Bool
with_keys done keys k = list_any (key_eq k) keys || done k

-- These lines are walked next, each once, where an accepted event bears on them that is no edit: of those that were walked
-- before the tables have what the past with its entry says, of all others what the past before it says. The plan is that of
-- both pasts, and no cell was brought down or up yet.
pub record Walks (p : State) (h : Happens) (t : Tables) (keys : List LineKey) : Type 0 where
  pub settings : Settings
  pub past : Past
  pub desk : ℕ
  pub legal : Legal settings past
  pub accepted : verdict settings past h.event ≡ Ok h.answer
  pub other : is_edit h.event ≡ false
  pub registered : IsRegisterOf past p.register
  pub selected : AreAreasOf past p.areas
  pub booked : p.book ≡ book_of past
  pub up : h.up ≡ up_before past h.event
  pub flight : h.flight ≡ flight_before past h.event
  pub downs : (k : Kind) (b : ℕ) (c : Cell) → down_at t.lines k b c ≡ is_down past k b c
  pub done : LineKey → Bool
  pub fresh : (k : LineKey) → list_any (key_eq k) keys ≡ true → done k ≡ false
  pub once : each_once key_eq keys ≡ true
  pub made : Consistent t (halfway past (After (entry_of desk h) past) done)

-- what the tables have once these of the lines are walked
abbrev pub walked : {p : State} {h : Happens} {t : Tables} {keys : List LineKey} → Walks p h t keys → List LineKey → View
walked {h = h} x these = halfway x.past (After (entry_of x.desk h) x.past) (with_keys x.done these)
