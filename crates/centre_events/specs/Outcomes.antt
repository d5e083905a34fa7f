-- What a reply says of each cell of what was in flight (TS 48.049, 8.1.3), and which cells an indication lists.
use Rattle.std.specs.Prelude.{ℕ, Bool, false, ◌||◌, List, [], Option, Some, None, find, map, if◌then◌else◌}
use Rattle.std.specs.List.{list_any}
use Rattle.cbsp_ie.specs.CellId.{names}
use Rattle.cbsp_ie.specs.Counts as counts
use Rattle.cbsp_ie.specs.Identifications.{Identifications}
use Rattle.cbsp_ie.specs.declared.cell_id.CellId.{CellId}
use Rattle.cbsp_ie.specs.declared.count_entry.CountEntry.{CountEntry}
use Rattle.cbsp_ie.specs.declared.fail_entry.FailEntry.{FailEntry}
use Rattle.cbsp_messages.specs.declared.message.Message.{Message}
use Rattle.cbsp_messages.specs.declared.message.Message.TheVariants as message
use Rattle.common.specs.declared.cell.Cell.{Cell}
use Rattle.centre_events.specs.Counts.{number_of}
use Rattle.centre_events.specs.Effects.{is_about}
use Rattle.centre_events.specs.InFlight.{old_of, cells_of}
use Rattle.centre_events.specs.Known.{is_named, known_named}
use Rattle.centre_events.specs.Past.{Past}
use Rattle.centre_events.specs.declared.in_flight.InFlight.{InFlight}
use Rattle.centre_events.specs.declared.outcome.Outcome.{Outcome}
use Rattle.centre_events.specs.declared.outcome.Outcome.TheVariants.{Done, Refused, Silent}
use Rattle.centre_events.specs.declared.reply.Reply.{Reply}
use Rattle.warning_book.specs.declared.kind.Kind.TheVariants as kind

-- the cell is one of those that a cell list names, where there is one
abbrev pub is_in_list : List ℕ → Option Identifications → Cell → Bool
is_in_list network None c = false
is_in_list network (Some list) c = is_named network list.ids c

-- the cell is one of those of which a number of broadcasts is given, where there is such a list
abbrev pub is_counted_in : List ℕ → Option counts.Numbers → Cell → Bool
is_counted_in network None c = false
is_counted_in network (Some list) c = list_any (λ (e : CountEntry). names network e.id c) list.entries

-- a cell that no failure names is done where one of the lists names it, and else nothing is said of it
abbrev pub done_or_silent : Bool → Outcome
done_or_silent is_done = if is_done then Done else Silent

-- what the reply FAILURE says of a cell: the cause of the first failure that names it
abbrev pub failure_outcome : Option FailEntry → Bool → Outcome
failure_outcome None is_done = done_or_silent is_done
failure_outcome (Some failure) is_done = Refused failure.cause

-- the first of the failures that names the cell
abbrev pub failure_in : List ℕ → List FailEntry → Cell → Option FailEntry
failure_in network failures c = find (λ (f : FailEntry). names network f.id c) failures

-- what the reply says of the cell: a COMPLETE that it was done, an ERROR INDICATION that it was refused
abbrev pub outcome : List ℕ → Message → Cell → Outcome
outcome network (message.WriteFailure m) c = failure_outcome (failure_in network m.failures c) (is_in_list network m.cells c || is_counted_in network m.counts c)
outcome network (message.KillFailure m) c = failure_outcome (failure_in network m.failures c) (is_in_list network m.cells c || is_counted_in network m.counts c)
outcome network (message.StatusFailure m) c = failure_outcome (failure_in network m.failures c) (is_counted_in network m.counts c)
outcome network (message.ErrorIndication m) c = Refused m.cause
outcome network other c = Done

-- what it says of one cell of what was in flight
abbrev pub reply_of : List ℕ → Message → InFlight → Cell → Reply
reply_of network message f c = record { cell = c; outcome = outcome network message c; count = number_of network message (old_of f) c }

-- and of each, in their order
abbrev pub replies_to : List ℕ → Message → InFlight → List Reply
replies_to network message f = map (reply_of network message f) (cells_of f)

-- the identifications of the cells that failed
abbrev pub failed_ids : List FailEntry → List CellId
failed_ids failures = map (λ (f : FailEntry). f.id) failures

-- the cells known at the BSC that the identifications of an indication name; none where it is about warnings of neither
-- kind
abbrev pub listed_cells : List ℕ → Past → ℕ → ℕ → List CellId → List Cell
listed_cells network past b n ids = if is_about n kind.Cbs || is_about n kind.Emergency then known_named network past b ids else []
