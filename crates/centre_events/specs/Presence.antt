-- What the BSCs have reported: whether a message is on air in a cell, and what holds an order for it back. A key is a
-- BSC, a cell, a message identifier and a serial number.
use Rattle.std.specs.Prelude.{ℕ, Bool, ◌&&◌, List, Option, nat_eq, if◌then◌else◌}
use Rattle.std.specs.List.{list_any}
use Rattle.std.specs.Option.{is_some}
use Rattle.cbsp_ie.specs.declared.cause.Cause.{Cause}
use Rattle.common.specs.declared.cell.Cell.{Cell}
use Rattle.warning_book.specs.Book.{has_number}
use Rattle.warning_book.specs.declared.kind.Kind.{Kind}
use Rattle.warning_book.specs.declared.warning.Warning.{Warning}
use Rattle.centre_events.specs.Effects.{flight_effect, report_effect, presence_mark, hold_mark, is_given}
use Rattle.centre_events.specs.InFlight.{in_flight}
use Rattle.centre_events.specs.Links.{is_up}
use Rattle.centre_events.specs.Past.{Past, latest}
use Rattle.centre_events.specs.Warnings.{warnings_of, has_key, key_kind}
use Rattle.centre_events.specs.declared.answer.Answer.{Answer}
use Rattle.coverage_plan.specs.declared.edit.Edit.{Edit}
use Rattle.coverage_plan.specs.declared.edit.Edit.TheVariants.{RemoveBsc, Update, Forget}
use Rattle.centre_events.specs.declared.effect.Effect.{Effect}
use Rattle.centre_events.specs.declared.effect.Effect.TheVariants.{Sets, Frees, Leaves}
use Rattle.centre_events.specs.declared.entry.Entry.{Entry}
use Rattle.centre_events.specs.declared.event.Event.{Event}
use Rattle.centre_events.specs.declared.event.Event.TheVariants as event
use Rattle.mirror.specs.declared.presence.Presence.{Presence}
use Rattle.mirror.specs.declared.presence.Presence.TheVariants.{Absent}
use Rattle.centre_events.specs.declared.in_flight.InFlight.{InFlight}
use Rattle.centre_events.specs.declared.outcome.Outcome.TheVariants.{Silent}

-- of a BSC that is removed nothing is on air; a warning that is forgotten holds nothing, nor does a version that is new
abbrev pub edit_effect : ℕ → ℕ → ℕ → Edit → Answer → List Warning → Effect
edit_effect b m s (Update n content) answer warnings = if is_given n m s answer warnings then Frees else Leaves
edit_effect b m s (RemoveBsc other) answer warnings = if nat_eq other b then Sets Absent else Leaves
edit_effect b m s (Forget n) answer warnings = if list_any (λ w. has_number n w && has_key m s w) warnings then Frees else Leaves
edit_effect b m s other answer warnings = Leaves

-- what the event does to the key of a warning of the kind, by its answer, whether the link was up, what was in flight, and
-- the warnings in the book before it: a matched reply tells the outcome in each cell, the loss of the link leaves it silent
-- in all; a Retry ends what holds the orders of its BSC back
abbrev pub effect : Kind → ℕ → Cell → ℕ → ℕ → Event → Answer → Bool → Option InFlight → List Warning → Effect
effect k b c m s (event.Edit edit) answer up flight warnings = edit_effect b m s edit answer warnings
effect k b c m s (event.Report other generation message) answer up flight warnings = if nat_eq other b then report_effect k message answer flight c m s else Leaves
effect k b c m s (event.LinkUp other) answer up flight warnings = if nat_eq other b && up then flight_effect flight Silent c m s else Leaves
effect k b c m s (event.LinkDown other generation) answer up flight warnings = if nat_eq other b then flight_effect flight Silent c m s else Leaves
effect k b c m s (event.Retry other) answer up flight warnings = if nat_eq other b then Frees else Leaves
effect k b c m s other answer up flight warnings = Leaves

-- what the entry does to the key after the past before it
abbrev pub effect_at : ℕ → Cell → ℕ → ℕ → Entry → Past → Effect
effect_at b c m s e before = effect (key_kind before m s) b c m s e.event e.answer (is_up before b) (in_flight before b) (warnings_of before)

-- whether the message is on air in the cell at the BSC
abbrev pub presence : Past → ℕ → Cell → ℕ → ℕ → Presence
presence past b c m s = latest (λ e before. presence_mark (effect_at b c m s e before)) (λ base. base.presence b c m s) past

-- what holds an order for the message back in the cell at the BSC: the cause with which the last one was refused
abbrev pub hold : Past → ℕ → Cell → ℕ → ℕ → Option Cause
hold past b c m s = latest (λ e before. hold_mark (effect_at b c m s e before)) (λ base. base.hold b c m s) past

-- an order for it is held back
abbrev pub is_held : Past → ℕ → Cell → ℕ → ℕ → Bool
is_held past b c m s = is_some (hold past b c m s)
