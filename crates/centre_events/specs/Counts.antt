-- How often messages were broadcast, as BSCs report it in their replies (TS 48.049, 8.2.10).
use Rattle.std.specs.Prelude.{ℕ, Bool, ◌&&◌, List, Option, Some, None, find, reverse, nat_eq, if◌then◌else◌}
use Rattle.std.specs.List.{list_any}
use Rattle.std.specs.Option.{option_map, option_and_then}
use Rattle.cbsp_ie.specs.CellId.{names}
use Rattle.cbsp_ie.specs.Counts as counts
use Rattle.cbsp_ie.specs.declared.count_entry.CountEntry.{CountEntry}
use Rattle.cbsp_messages.specs.declared.message.Message.{Message}
use Rattle.cbsp_messages.specs.declared.message.Message.TheVariants as message
use Rattle.common.specs.Cell.{cell_eq}
use Rattle.common.specs.declared.cell.Cell.{Cell}
use Rattle.mirror.specs.Seen.{is_the}
use Rattle.warning_book.specs.Book.{has_number}
use Rattle.warning_book.specs.declared.warning.Warning.{Warning}
use Rattle.centre_events.specs.Effects.{is_among, is_given}
use Rattle.centre_events.specs.InFlight.{in_flight, id_of, old_of, cells_of}
use Rattle.centre_events.specs.Past.{Past, latest}
use Rattle.centre_events.specs.Warnings.{warnings_of, has_key}
use Rattle.centre_events.specs.declared.answer.Answer.{Answer}
use Rattle.centre_events.specs.declared.answer.Answer.TheVariants.{Replied}
use Rattle.coverage_plan.specs.declared.edit.Edit.{Edit}
use Rattle.coverage_plan.specs.declared.edit.Edit.TheVariants.{RemoveBsc, Update, Forget}
use Rattle.centre_events.specs.declared.entry.Entry.{Entry}
use Rattle.centre_events.specs.declared.event.Event.{Event}
use Rattle.centre_events.specs.declared.event.Event.TheVariants as event
use Rattle.centre_events.specs.declared.in_flight.InFlight.{InFlight}
use Rattle.centre_events.specs.declared.reply.Reply.{Reply}

-- What a reply says.

-- the entry gives a valid number of broadcasts of the cell
abbrev pub gives_number : List ℕ → Cell → CountEntry → Bool
gives_number network c e = nat_eq e.info 0 && names network e.id c

-- the last number that the entries give of the cell
abbrev pub last_number : List ℕ → List CountEntry → Cell → Option ℕ
last_number network entries c = option_map (λ (e : CountEntry). e.number) (find (gives_number network c) (reverse entries))

-- that of the list, where there is such a list
abbrev pub number_in : List ℕ → Option counts.Numbers → Cell → Option ℕ
number_in network None c = None
number_in network (Some list) c = last_number network list.entries c

-- the numbers of broadcasts that the reply gives
abbrev pub numbers_of : Message → Option counts.Numbers
numbers_of (message.WriteComplete m) = m.counts
numbers_of (message.WriteFailure m) = m.counts
numbers_of (message.KillComplete m) = m.counts
numbers_of (message.KillFailure m) = m.counts
numbers_of (message.StatusComplete m) = Some m.counts
numbers_of (message.StatusFailure m) = m.counts
numbers_of other = None

-- the number that is taken from a reply: that of the version that was on air, of which a write has none
abbrev pub number_of : List ℕ → Message → Option ℕ → Cell → Option ℕ
number_of network message None c = None
number_of network message (Some old) c = number_in network (numbers_of message) c

-- What is kept of it.

-- what the replies report of the cell
abbrev pub reported_in : Cell → List Reply → Option ℕ
reported_in c replies = option_and_then (λ (r : Reply). r.count) (find (λ (r : Reply). cell_eq c r.cell) replies)

-- the key is that of the version that was on air before what is in flight, in one of its cells
abbrev pub is_counted_key : InFlight → Cell → ℕ → ℕ → Bool
is_counted_key f c m s = (nat_eq (id_of f) m && is_among c (cells_of f)) && is_the (old_of f) s

-- what they report of the key
abbrev pub replied_count : Option InFlight → List Reply → Cell → ℕ → ℕ → Option ℕ
replied_count None replies c m s = None
replied_count (Some f) replies c m s = if is_counted_key f c m s then reported_in c replies else None

-- a report that was answered so
abbrev pub report_count : Answer → Option InFlight → Cell → ℕ → ℕ → Option ℕ
report_count (Replied replies) f c m s = replied_count f replies c m s
report_count other f c m s = None

-- of a BSC that is taken out, and of a warning that is forgotten, nothing is reported any more
abbrev pub edit_count : ℕ → ℕ → ℕ → Edit → Answer → List Warning → Option ℕ
edit_count b m s (Update n content) answer warnings = if is_given n m s answer warnings then Some 0 else None
edit_count b m s (RemoveBsc other) answer warnings = if nat_eq other b then Some 0 else None
edit_count b m s (Forget n) answer warnings = if list_any (λ w. has_number n w && has_key m s w) warnings then Some 0 else None
edit_count b m s other answer warnings = None

-- the number of broadcasts that the event sets of the key, by its answer, what was in flight, and the warnings in the book
-- before it
abbrev pub count_mark : ℕ → Cell → ℕ → ℕ → Event → Answer → Option InFlight → List Warning → Option ℕ
count_mark b c m s (event.Edit edit) answer flight warnings = edit_count b m s edit answer warnings
count_mark b c m s (event.Report other generation message) answer flight warnings = if nat_eq other b then report_count answer flight c m s else None
count_mark b c m s other answer flight warnings = None

-- the number that the entry sets of the key after the past before it
abbrev pub count_at : ℕ → Cell → ℕ → ℕ → Entry → Past → Option ℕ
count_at b c m s e before = count_mark b c m s e.event e.answer (in_flight before b) (warnings_of before)

-- how often the message was broadcast in the cell at the BSC, as it reported last
abbrev pub count : Past → ℕ → Cell → ℕ → ℕ → ℕ
count past b c m s = latest (count_at b c m s) (λ base. base.count b c m s) past
