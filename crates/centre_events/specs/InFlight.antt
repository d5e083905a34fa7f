-- What is in flight to a BSC, an order or a query, and the replies that match it.
use Rattle.std.specs.Prelude.{ℕ, Bool, true, false, ◌&&◌, not, List, Option, Some, None, nat_eq, if◌then◌else◌}
use Rattle.common.specs.declared.cell.Cell.{Cell}
use Rattle.cbsp_messages.specs.declared.message.Message.{Message}
use Rattle.cbsp_messages.specs.declared.message.Message.TheVariants.{WriteComplete, WriteFailure, KillComplete, KillFailure, StatusComplete, StatusFailure, ErrorIndication}
use Rattle.centre_events.specs.Past.{Past, latest}
use Rattle.centre_events.specs.Links.{is_up}
use Rattle.centre_events.specs.declared.answer.Answer.{Answer}
use Rattle.centre_events.specs.declared.answer.Answer.TheVariants.{Sent, Asked, Replied}
use Rattle.centre_events.specs.declared.event.Event.{Event}
use Rattle.centre_events.specs.declared.event.Event.TheVariants.{LinkUp, LinkDown, Send, Ask, Report}
use Rattle.centre_events.specs.declared.in_flight.InFlight.{InFlight}
use Rattle.centre_events.specs.declared.in_flight.InFlight.TheVariants as flight
use Rattle.order_maker.specs.declared.order_kind.OrderKind.{OrderKind}
use Rattle.order_maker.specs.declared.order_kind.OrderKind.TheVariants.{Write, Replace, Kill}

-- what an accepted Send put in flight
abbrev pub sent_flight : Answer → Option InFlight
sent_flight (Sent order message) = Some (flight.Order order)
sent_flight other = None

-- the report was a reply that matched what was in flight
abbrev pub is_replied : Answer → Bool
is_replied (Replied replies) = true
is_replied other = false

-- what an accepted Ask put in flight
abbrev pub asked_flight : Answer → Option InFlight
asked_flight (Asked m s cells message) = Some (flight.Query m s cells)
asked_flight other = None

-- a Send or an Ask begins a flight; a matched reply and the loss of the link end it
abbrev pub flight_mark : ℕ → Event → Answer → Bool → Option (Option InFlight)
flight_mark b (Send other generation) answer up = if nat_eq other b then Some (sent_flight answer) else None
flight_mark b (Ask other generation n after) answer up = if nat_eq other b then Some (asked_flight answer) else None
flight_mark b (Report other generation message) answer up = if nat_eq other b && is_replied answer then Some None else None
flight_mark b (LinkUp other) answer up = if nat_eq other b && up then Some None else None
flight_mark b (LinkDown other generation) answer up = if nat_eq other b then Some None else None
flight_mark b other answer up = None

-- what is in flight to the BSC
abbrev pub in_flight : Past → ℕ → Option InFlight
in_flight past b = latest (λ e before. flight_mark b e.event e.answer (is_up before b)) (λ base. base.in_flight b) past

-- the identifiers that a report gives
pub record Identifiers : Type 0 where
  pub message_id : Option ℕ
  pub serial : Option ℕ
  pub old : Option ℕ

-- an identifier that is given, and has a counterpart in what is in flight, is that counterpart
abbrev pub agrees : Option ℕ → Option ℕ → Bool
agrees None counterpart = true
agrees (Some given) None = true
agrees (Some given) (Some counterpart) = nat_eq given counterpart

-- the serial number that an order writes
abbrev pub written_by : OrderKind → ℕ → Option ℕ
written_by Write s = Some s
written_by (Replace old) s = Some s
written_by Kill s = None

-- the serial number that it takes off the air
abbrev pub cleared_by : OrderKind → ℕ → Option ℕ
cleared_by Write s = None
cleared_by (Replace old) s = Some old
cleared_by Kill s = Some s

-- the counterparts of a New Serial Number and of an Old Serial Number: a query names one by its old one
abbrev pub new_of : InFlight → Option ℕ
new_of (flight.Order order) = written_by order.kind order.serial
new_of (flight.Query message_id serial cells) = None

abbrev pub old_of : InFlight → Option ℕ
old_of (flight.Order order) = cleared_by order.kind order.serial
old_of (flight.Query message_id serial cells) = Some serial

-- its message identifier
abbrev pub id_of : InFlight → ℕ
id_of (flight.Order order) = order.message_id
id_of (flight.Query message_id serial cells) = message_id

-- its cells, in their order
abbrev pub cells_of : InFlight → List Cell
cells_of (flight.Order order) = order.cells
cells_of (flight.Query message_id serial cells) = cells

-- an order of this kind is a KILL
abbrev pub is_kill : OrderKind → Bool
is_kill Write = false
is_kill (Replace old) = false
is_kill Kill = true

-- it is a KILL
abbrev pub kills : InFlight → Bool
kills (flight.Order order) = is_kill order.kind
kills (flight.Query message_id serial cells) = false

-- it is a WRITE-REPLACE
abbrev pub writes : InFlight → Bool
writes (flight.Order order) = not (is_kill order.kind)
writes (flight.Query message_id serial cells) = false

-- it is a MESSAGE STATUS QUERY
abbrev pub asks : InFlight → Bool
asks (flight.Order order) = false
asks (flight.Query message_id serial cells) = true

-- no identifier that is given differs from its counterpart
abbrev pub agree : Identifiers → InFlight → Bool
agree given f = agrees given.message_id (Some (id_of f)) && (agrees given.serial (new_of f) && agrees given.old (old_of f))

-- the message answers what is in flight: it is of its kind, or an ERROR INDICATION, and no identifier that it gives
-- differs
abbrev pub matches : Message → InFlight → Bool
matches (WriteComplete m) f = writes f && agree (record { message_id = Some m.message_id; serial = Some m.serial; old = m.old }) f
matches (WriteFailure m) f = writes f && agree (record { message_id = Some m.message_id; serial = Some m.serial; old = m.old }) f
matches (KillComplete m) f = kills f && agree (record { message_id = Some m.message_id; serial = None; old = Some m.serial }) f
matches (KillFailure m) f = kills f && agree (record { message_id = Some m.message_id; serial = None; old = Some m.serial }) f
matches (StatusComplete m) f = asks f && agree (record { message_id = Some m.message_id; serial = None; old = Some m.serial }) f
matches (StatusFailure m) f = asks f && agree (record { message_id = Some m.message_id; serial = None; old = Some m.serial }) f
matches (ErrorIndication m) f = agree (record { message_id = m.message_id; serial = m.serial; old = m.old }) f
matches other f = false

-- it answers what is in flight, if anything is
abbrev pub matches_flight : Message → Option InFlight → Bool
matches_flight message None = false
matches_flight message (Some f) = matches message f
