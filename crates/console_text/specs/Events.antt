-- The event that a line of the console asks for.
use Rattle.std.specs.Prelude.{◌≡◌, ◌⊎◌, ℕ, Bool, true, false, List, Option, Some, None, if◌then◌else◌}
use Rattle.std.specs.Option.{option_map}
use Rattle.centre_events.specs.declared.event.Event.{Event}
use Rattle.centre_events.specs.declared.event.Event.TheVariants as event
use Rattle.centre_events.specs.declared.refusal.Refusal.TheVariants as refusal
use Rattle.console_text.specs.Headings.{alert_of, content_of, emergency_content_of, notice_of}
use Rattle.console_text.specs.HexText.{pages_of, security_of}
use Rattle.console_text.specs.Reports.{DigitsCarry, DigitsComeTo}
use Rattle.console_text.specs.declared.line.Line.{Line}
use Rattle.console_text.specs.declared.line.Line.TheVariants as line
use Rattle.console_text.specs.declared.line_edit.LineEdit.{LineEdit}
use Rattle.console_text.specs.declared.line_edit.LineEdit.TheVariants as made
use Rattle.console_text.specs.declared.line_event.LineEvent.{LineEvent}
use Rattle.console_text.specs.declared.line_event.LineEvent.TheVariants as came
use Rattle.console_text.specs.declared.response.Response.{Response}
use Rattle.console_text.specs.declared.response.Response.TheVariants as response
use Rattle.console_text.specs.declared.text_fault.TextFault.{TextFault}
use Rattle.console_text.specs.declared.text_fault.TextFault.TheVariants as fault
use Rattle.coverage_plan.specs.declared.edit.Edit.TheVariants as edit

-- the event that a line stands for, where these generations are kept for the BSCs; `issue` and `update` stand for one where their
-- pages are octets, `alert` and `realert` where their security information is
abbrev pub event_with : (ℕ → ℕ) → Line → Option Event
event_with kept (line.AddBsc b) = Some (event.Edit (edit.AddBsc b))
event_with kept (line.RemoveBsc b) = Some (event.Edit (edit.RemoveBsc b))
event_with kept (line.AddCell c b) = Some (event.Edit (edit.AddCell c b))
event_with kept (line.MoveCell c b) = Some (event.Edit (edit.MoveCell c b))
event_with kept (line.RemoveCell c) = Some (event.Edit (edit.RemoveCell c))
event_with kept (line.AddArea a) = Some (event.Edit (edit.AddArea a))
event_with kept (line.DropArea a) = Some (event.Edit (edit.DropArea a))
event_with kept (line.Put a s) = Some (event.Edit (edit.Put a s))
event_with kept (line.Cut a s) = Some (event.Edit (edit.Cut a s))
event_with kept (line.Issue heading text areas) = option_map (λ pages. event.Edit (edit.Issue (notice_of heading pages) areas)) (pages_of text)
event_with kept (line.Update warning heading text) = option_map (λ pages. event.Edit (edit.Update warning (content_of heading pages))) (pages_of text)
event_with kept (line.Alert heading text areas) = option_map (λ security. event.Edit (edit.Issue (alert_of heading security) areas)) (security_of text)
event_with kept (line.Realert warning heading text) = option_map (λ security. event.Edit (edit.Update warning (emergency_content_of heading security))) (security_of text)
event_with kept (line.Widen warning a) = Some (event.Edit (edit.Widen warning a))
event_with kept (line.Narrow warning a) = Some (event.Edit (edit.Narrow warning a))
event_with kept (line.Stop warning) = Some (event.Edit (edit.Stop warning))
event_with kept (line.Forget warning) = Some (event.Edit (edit.Forget warning))
event_with kept (line.Retry b) = Some (event.Retry b)
event_with kept (line.Up b) = Some (event.LinkUp b)
event_with kept (line.Down b) = Some (event.LinkDown b (kept b))
event_with kept (line.Send b) = Some (event.Send b (kept b))
event_with kept (line.Ask b warning after) = Some (event.Ask b (kept b) warning after)
event_with kept other = None

-- the line has pages or security information in hexadecimal digits, for an edit
abbrev pub has_digits : Line → Bool
has_digits (line.Issue heading pages areas) = true
has_digits (line.Update warning heading pages) = true
has_digits (line.Alert heading security areas) = true
has_digits (line.Realert warning heading security) = true
has_digits other = false

-- what the line comes to, of which that is the event: an edit, no edit, or digits that don't give what they have to
abbrev pub edit_or : Line → Option Event → LineEdit
edit_or l (Some (event.Edit change)) = made.Edit change
edit_or l (Some other) = made.Other l
edit_or l None = if has_digits l then made.BadHex else made.Other l

-- the edit of the line; it names no generation, so any may be kept
abbrev pub line_edit : Line → LineEdit
line_edit l = edit_or l (event_with (λ b. 0) l)

-- what the line comes to where it is no report, of which that is the event
abbrev pub event_or : Line → Option Event → LineEvent
event_or l (Some e) = came.Event e
event_or l None = if has_digits l then came.Bad fault.Hex else came.Other l

-- what a report comes to; where memory runs out for its message, there is one frame that a BSC sends
abbrev pub IsReportEvent : ℕ → ℕ → List ℕ → LineEvent → Type 0
IsReportEvent generation b text e =
    DigitsComeTo (λ m. e ≡ came.Event (event.Report b generation m)) (λ f. e ≡ came.Bad f) text
    ⊎ DigitsCarry (λ t body. e ≡ came.Bad fault.Memory) text

-- what the line comes to, where that generation is kept for its BSC
abbrev pub IsLineEvent : ℕ → Line → LineEvent → Type 0
IsLineEvent generation (line.Report b text) e = IsReportEvent generation b text e
IsLineEvent generation l e = e ≡ event_or l (event_with (λ b. generation) l)

-- the BSC whose link the line speaks of, by the generation that is kept for it
abbrev pub link_of : Line → Option ℕ
link_of (line.Down b) = Some b
link_of (line.Send b) = Some b
link_of (line.Ask b warning after) = Some b
link_of (line.Report b text) = Some b
link_of other = None

-- what a line is answered whose hexadecimal digits don't give what they have to
abbrev pub fault_response : TextFault → Response
fault_response fault.Hex = response.BadHex
fault_response fault.Frame = response.BadFrame
fault_response fault.Skipped = response.Skipped
fault_response (fault.Message f) = response.BadMessage f
fault_response fault.Memory = response.Refused refusal.Memory
