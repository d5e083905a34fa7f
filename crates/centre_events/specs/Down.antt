-- Which cells are down for warnings of each kind: a BSC said that they failed for them, and has not said since that they
-- came up again (TS 48.049, 8.1.3).
use Rattle.std.specs.Prelude.{ℕ, Bool, true, false, ◌||◌, Option, Some, None, nat_eq, if◌then◌else◌}
use Rattle.cbsp_messages.specs.declared.message.Message.{Message}
use Rattle.cbsp_messages.specs.declared.message.Message.TheVariants as message
use Rattle.common.specs.declared.cell.Cell.{Cell}
use Rattle.centre_events.specs.Effects.{is_about, is_among}
use Rattle.centre_events.specs.Past.{Past, latest}
use Rattle.centre_events.specs.declared.answer.Answer.{Answer}
use Rattle.centre_events.specs.declared.answer.Answer.TheVariants.{Listed}
use Rattle.coverage_plan.specs.declared.edit.Edit.{Edit}
use Rattle.coverage_plan.specs.declared.edit.Edit.TheVariants.{RemoveBsc}
use Rattle.centre_events.specs.declared.event.Event.{Event}
use Rattle.centre_events.specs.declared.event.Event.TheVariants as event
use Rattle.warning_book.specs.declared.kind.Kind.{Kind}
use Rattle.warning_book.specs.declared.kind.Kind.TheVariants as kind

-- a FAILURE says that its cells are down, a RESTART that they are up, for warnings of the kind that it is about
abbrev pub says_down : Kind → Message → Option Bool
says_down k (message.Failure m) = if is_about m.kind k then Some true else None
says_down k (message.Restart m) = if is_about m.kind k then Some false else None
says_down k other = None

-- in a cell that it lists
abbrev pub listed_down : Kind → Cell → Message → Answer → Option Bool
listed_down k c message (Listed cells) = if is_among c cells then says_down k message else None
listed_down k c message other = None

-- no cell is down at a BSC that is taken out
abbrev pub edit_down : ℕ → Edit → Option Bool
edit_down b (RemoveBsc other) = if nat_eq other b then Some false else None
edit_down b other = None

-- whether the event, answered so, brings the cell down at the BSC for warnings of the kind, or up
abbrev pub down_mark : Kind → ℕ → Cell → Event → Answer → Option Bool
down_mark k b c (event.Edit edit) answer = edit_down b edit
down_mark k b c (event.Report other generation message) answer = if nat_eq other b then listed_down k c message answer else None
down_mark k b c other answer = None

-- the cell is down at the BSC for warnings of the kind
abbrev pub is_down : Past → Kind → ℕ → Cell → Bool
is_down past k b c = latest (λ e before. down_mark k b c e.event e.answer) (λ base. base.is_down k b c) past

-- the cell is down at the BSC for warnings of some kind
abbrev pub is_down_for_some : Past → ℕ → Cell → Bool
is_down_for_some past b c = is_down past kind.Cbs b c || is_down past kind.Emergency b c
