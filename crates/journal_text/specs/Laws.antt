-- Which events have a line: what a line of the console asks for, and what a frame of a BSC reports.
use Rattle.std.specs.Prelude.{◌≡◌, ℕ, ◌<◌, ◌≤◌, Bool, true, false, List, [], ◌∷◌, Some, length}
use Rattle.std.specs.List.{AllByRecursion}
use Rattle.areas.specs.Name.{is_name}
use Rattle.cbsp_ie.specs.declared.cell_id.CellId.TheVariants as id
use Rattle.cbsp_ie.specs.declared.form.Form.TheVariants as form
use Rattle.cbsp_messages.specs.Message.{type_of}
use Rattle.cbsp_messages.specs.MessageType.{is_report}
use Rattle.cbsp_messages.specs.Spelling.{Spells}
use Rattle.cbsp_messages.specs.declared.message.Message.{Message}
use Rattle.cbsp_messages.specs.declared.message.Message.TheVariants as message
use Rattle.centre_events.specs.declared.event.Event.{Event}
use Rattle.centre_events.specs.declared.event.Event.TheVariants as event
use Rattle.console_text.specs.declared.line.Line.{Line}
use Rattle.coverage_plan.specs.declared.edit.Edit.{Edit}
use Rattle.coverage_plan.specs.declared.edit.Edit.TheVariants as edit
use Rattle.hex.specs.Hex.{IsBytes}
use Rattle.journal_text.specs.Reading.{StandsFor, request_of}
use Rattle.journal_text.specs.Sayable.{HasFrame, HasLine}
use Rattle.warning_book.specs.Content.{have_pages}

-- a message that is read of a frame's body, and that a BSC sends, is carried by a frame
abbrev pub ReadHasFrame : Type 0
ReadHasFrame = (kind : ℕ) (body : List ℕ) (m : Message) → IsBytes body → Spells kind body m → is_report (type_of m) ≡ true → HasFrame m

-- the RESTART of all cells with this Broadcast Message Type and this Recovery Indication
abbrev pub restart_of : ℕ → ℕ → Message
restart_of kind recovery = message.Restart (record { cells = record { form = form.All; ids = id.All ∷ [] }; kind = kind; recovery = recovery })

-- it is carried by a frame
abbrev pub RestartHasFrame : Type 0
RestartHasFrame = (kind recovery : ℕ) → kind < 16 → recovery < 16 → HasFrame (restart_of kind recovery)

-- the event is of a link, and no report: all that it has are numbers of BSCs, of warnings and of cells
abbrev pub is_of_link : Event → Bool
is_of_link (event.Edit e) = false
is_of_link (event.Report b generation m) = false
is_of_link other = true

-- the areas that the edit names have names of areas, there are 1 to 16 of a warning, and its pages can be broadcast
abbrev pub EditIsWellNamed : Edit → Type 0
EditIsWellNamed (edit.AddArea a) = is_name a ≡ true
EditIsWellNamed (edit.DropArea a) = is_name a ≡ true
EditIsWellNamed (edit.Put a s) = is_name a ≡ true
EditIsWellNamed (edit.Cut a s) = is_name a ≡ true
EditIsWellNamed (edit.Issue notice areas) = (have_pages notice.content ≡ true) × (1 ≤ length areas) × (length areas ≤ 16) × AllByRecursion (λ a. is_name a ≡ true) areas
EditIsWellNamed (edit.Update n c) = have_pages c ≡ true
EditIsWellNamed (edit.Widen n a) = is_name a ≡ true
EditIsWellNamed (edit.Narrow n a) = is_name a ≡ true
EditIsWellNamed other = Unit {0}

-- the same of an event
abbrev pub IsWellNamed : Event → Type 0
IsWellNamed (event.Edit e) = EditIsWellNamed e
IsWellNamed other = Unit {0}

-- a line of the console asks for the event, where some generations are kept for the BSCs
pub record IsAsked (e : Event) : Type 0 where
  pub octets : List ℕ
  pub request : Line
  pub kept : ℕ → ℕ
  pub asked : request_of octets ≡ Some request
  pub stands : StandsFor kept request e

-- what a line asks for has a line, if its names and pages are allowed
abbrev pub AskedHasLine : Type 0
AskedHasLine = (e : Event) → IsAsked e → IsWellNamed e → HasLine e
