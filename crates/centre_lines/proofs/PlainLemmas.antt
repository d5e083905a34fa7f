-- An event that is no edit changes nothing of a line but the line itself, and whether its cell is down.
use Rattle.std.proofs.Common.{◌≡◌, ℕ, Bool, false, List, Option, Some, None}
use Rattle.areas.specs.declared.area.Area.{Area}
use Rattle.cell_register.specs.Register as register
use Rattle.coverage_plan.specs.Plan.{State}
use Rattle.kept_tables.specs.declared.line_facts.LineFacts.{LineFacts}
use Rattle.mirror.specs.declared.line_key.LineKey.{LineKey}
use Rattle.warning_book.specs.declared.warning.Warning.{Warning}
use Rattle.centre_events.specs.Kept.{IsRegisterOf, AreAreasOf, is_edit}
use Rattle.centre_events.specs.Past.{Past, After}
use Rattle.centre_events.specs.declared.answer.Answer.{Answer}
use Rattle.centre_events.specs.declared.event.Event.{Event}
use Rattle.centre_events.specs.declared.event.Event.TheVariants as event
use Rattle.centre_lines.specs.Following.{Happens, line_now}
use Rattle.centre_past.specs.State.{facts_from}

-- of a line that was read so

pub plain_facts : (h : Happens) (p : State) (down now : Bool) (k : LineKey) (before : LineFacts) (o : Option Warning) → before ≡ facts_from p.register p.areas down k.bsc k.cell before.line o → record before { line = line_now h p.book.warnings k.bsc k.cell o before.line; down = now } ≡ facts_from p.register p.areas now k.bsc k.cell (line_now h p.book.warnings k.bsc k.cell o before.line) o
plain_facts h p down now k before None read = λ i. record (read i) { line = (read i).line; down = now }
plain_facts h p down now k before (Some w) read = λ i. record (read i) { line = line_now h p.book.warnings k.bsc k.cell (Some w) before.line; down = now }

-- no event but an edit changes the register, the areas or the book

pub register_before : (desk : ℕ) (e : Event) (a : Answer) (past : Past) (r : register.State) → is_edit e ≡ false → IsRegisterOf (After (record { desk = desk; event = e; answer = a }) past) r → IsRegisterOf past r
register_before desk (event.Edit x) a past r still is = cc
register_before desk other a past r still is = record { unfolded = is.unfolded; bscs = is.bscs; places = is.places }

pub areas_before : (desk : ℕ) (e : Event) (a : Answer) (past : Past) (l : List Area) → is_edit e ≡ false → AreAreasOf (After (record { desk = desk; event = e; answer = a }) past) l → AreAreasOf past l
areas_before desk (event.Edit x) a past l still are = cc
areas_before desk other a past l still are = record { unfolded = are.unfolded; names = are.names; selectors = are.selectors }
