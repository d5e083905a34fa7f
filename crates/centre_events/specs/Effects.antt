-- What an event does to one key: what an order in flight comes to there, by what its BSC said of the cell (TS 48.049,
-- 8.1.3, with the causes of 8.2.13).
use Rattle.std.specs.Prelude.{ℕ, Bool, false, ◌&&◌, ◌||◌, List, Option, Some, None, find, nat_eq, unwrap_or, if◌then◌else◌}
use Rattle.std.specs.List.{list_any}
use Rattle.std.specs.Option.{option_map}
use Rattle.cbsp_ie.specs.declared.cause.Cause.{Cause}
use Rattle.cbsp_messages.specs.declared.message.Message.{Message}
use Rattle.cbsp_messages.specs.declared.message.Message.TheVariants.{Restart}
use Rattle.common.specs.Cell.{cell_eq}
use Rattle.common.specs.declared.cell.Cell.{Cell}
use Rattle.warning_book.specs.Book.{has_number}
use Rattle.warning_book.specs.declared.warning.Warning.{Warning}
use Rattle.centre_events.specs.declared.answer.Answer.{Answer}
use Rattle.centre_events.specs.declared.answer.Answer.TheVariants.{Updated, Replied, Listed}
use Rattle.centre_events.specs.declared.effect.Effect.{Effect}
use Rattle.centre_events.specs.declared.effect.Effect.TheVariants.{Sets, Holds, Frees, Leaves}
use Rattle.mirror.specs.declared.key_state.KeyState.{KeyState}
use Rattle.mirror.specs.declared.presence.Presence.{Presence}
use Rattle.mirror.specs.declared.presence.Presence.TheVariants.{Absent, OnAir, Unknown}
use Rattle.centre_events.specs.declared.in_flight.InFlight.{InFlight}
use Rattle.centre_events.specs.declared.in_flight.InFlight.TheVariants as flight
use Rattle.order_maker.specs.declared.order.Order.{Order}
use Rattle.order_maker.specs.declared.order_kind.OrderKind.{OrderKind}
use Rattle.order_maker.specs.declared.order_kind.OrderKind.TheVariants.{Write, Replace, Kill}
use Rattle.centre_events.specs.declared.outcome.Outcome.{Outcome}
use Rattle.centre_events.specs.declared.outcome.Outcome.TheVariants.{Done, Refused, Silent}
use Rattle.centre_events.specs.declared.reply.Reply.{Reply}
use Rattle.warning_book.specs.Content.{kind_number}
use Rattle.warning_book.specs.declared.kind.Kind.{Kind}

-- the cell is one of the list
abbrev pub is_among : Cell → List Cell → Bool
is_among c cs = list_any (cell_eq c) cs

-- a write that was refused: cause 13 says that the message is on air already
abbrev pub write_refused : Cause → Effect
write_refused cause = if nat_eq cause.0 13 then Sets OnAir else Holds cause

-- a replace at its new key: cause 2 says that the old message is not there, and nothing of the new one
abbrev pub replace_refused : Cause → Effect
replace_refused cause = if nat_eq cause.0 2 then Leaves else write_refused cause

-- a KILL that was refused: causes 2 and 3 say that the message, or the cell, is not there
abbrev pub kill_refused : Cause → Effect
kill_refused cause = if nat_eq cause.0 2 || nat_eq cause.0 3 then Sets Absent else Holds cause

-- an order of each kind at the key of its serial number, by what became of it
abbrev pub new_effect : OrderKind → Outcome → Effect
new_effect Write Done = Sets OnAir
new_effect Write (Refused cause) = write_refused cause
new_effect (Replace old) Done = Sets OnAir
new_effect (Replace old) (Refused cause) = replace_refused cause
new_effect Kill Done = Sets Absent
new_effect Kill (Refused cause) = kill_refused cause
new_effect kind Silent = Sets Unknown

-- a replace that was refused, at the key that it takes off the air
abbrev pub old_refused : Cause → Effect
old_refused cause = if nat_eq cause.0 13 then Sets Unknown else (if nat_eq cause.0 2 then Sets Absent else Leaves)

-- a replace at the key that it takes off the air
abbrev pub old_effect : Outcome → Effect
old_effect Done = Sets Absent
old_effect (Refused cause) = old_refused cause
old_effect Silent = Sets Unknown

-- a query at its key: cause 2 says that the message is not there
abbrev pub query_effect : Outcome → Effect
query_effect (Refused cause) = if nat_eq cause.0 2 then Sets Absent else Leaves
query_effect other = Leaves

-- the order replaces the version of that serial number
abbrev pub replaces : OrderKind → ℕ → Bool
replaces Write s = false
replaces (Replace old) s = nat_eq old s
replaces Kill s = false

-- an order at a key of its message identifier, in one of its cells
abbrev pub key_effect : Order → Outcome → ℕ → Effect
key_effect order o s = if nat_eq order.serial s then new_effect order.kind o else (if replaces order.kind s then old_effect o else Leaves)

-- an order at any key of its BSC
abbrev pub order_effect : Order → Outcome → Cell → ℕ → ℕ → Effect
order_effect order o c m s = if nat_eq order.message_id m && is_among c order.cells then key_effect order o s else Leaves

-- what is in flight at any key of its BSC
abbrev pub flight_effect : Option InFlight → Outcome → Cell → ℕ → ℕ → Effect
flight_effect None o c m s = Leaves
flight_effect (Some (flight.Order order)) o c m s = order_effect order o c m s
flight_effect (Some (flight.Query message_id serial cells)) o c m s = if (nat_eq message_id m && is_among c cells) && nat_eq serial s then query_effect o else Leaves

-- the answer gives the serial number to the next version of the warning of that number, which has the message identifier
abbrev pub is_given : ℕ → ℕ → ℕ → Answer → List Warning → Bool
is_given n m s (Updated t) warnings = nat_eq s t && list_any (λ w. has_number n w && nat_eq w.message_id m) warnings
is_given n m s other warnings = false

-- what the replies say of the cell
abbrev pub outcome_in : Cell → List Reply → Option Outcome
outcome_in c replies = option_map (λ r. r.outcome) (find (λ r. cell_eq c r.cell) replies)

-- a reply that says this of the cell, or nothing
abbrev pub said_effect : Option Outcome → Option InFlight → Cell → ℕ → ℕ → Effect
said_effect None f c m s = Leaves
said_effect (Some o) f c m s = flight_effect f o c m s

-- a RESTART in a cell that it lists: nothing is on air any more, unless its data were kept; no order is held back
abbrev pub restart_effect : ℕ → Effect
restart_effect recovery = if nat_eq recovery 0 then Frees else Sets Absent

-- an indication of that type is about warnings of the kind (TS 48.049, 8.2.24)
abbrev pub is_about : ℕ → Kind → Bool
is_about n k = nat_eq n (kind_number k)

-- an indication at each key of a warning of the kind, in a cell that it lists: a FAILURE leaves them, since the cell is
-- down, and so does what is about warnings of the other kind
abbrev pub indicated_effect : Kind → Message → Effect
indicated_effect k (Restart m) = if is_about m.kind k then restart_effect m.recovery else Leaves
indicated_effect k other = Leaves

-- a report that was answered so, at a key of a warning of the kind: a matched reply tells the outcome in each cell, an
-- indication lists its cells
abbrev pub report_effect : Kind → Message → Answer → Option InFlight → Cell → ℕ → ℕ → Effect
report_effect k message (Replied replies) f c m s = said_effect (outcome_in c replies) f c m s
report_effect k message (Listed cells) f c m s = if is_among c cells then indicated_effect k message else Leaves
report_effect k message other f c m s = Leaves

-- the presence that is set, if one is
abbrev pub presence_mark : Effect → Option Presence
presence_mark (Sets p) = Some p
presence_mark (Holds cause) = None
presence_mark Frees = None
presence_mark Leaves = None

-- what holds the key then, if that changes: whatever sets a presence ends a hold
abbrev pub hold_mark : Effect → Option (Option Cause)
hold_mark (Sets p) = Some None
hold_mark (Holds cause) = Some (Some cause)
hold_mark Frees = Some None
hold_mark Leaves = None

-- what is kept of the key then, where that number of broadcasts is reported, if one is
abbrev pub state_after : Effect → Option ℕ → KeyState → KeyState
state_after e n k = record { presence = unwrap_or (presence_mark e) k.presence; hold = unwrap_or (hold_mark e) k.hold; count = unwrap_or n k.count }
