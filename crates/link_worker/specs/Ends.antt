-- What ends a side of a link.
use Rattle.std.specs.Prelude.{ℕ, Bool, true, false, Option, Some, None, Result, Ok, Err}
use Rattle.cbsp_messages.specs.declared.fault.MessageFault.{MessageFault}
use Rattle.cbsp_messages.specs.declared.fault.MessageFault.TheVariants as fault
use Rattle.centre_events.specs.declared.refusal.Refusal.{Refusal}
use Rattle.centre_events.specs.declared.refusal.Refusal.TheVariants as refusal
use Rattle.link_worker.specs.declared.end.End.{End}
use Rattle.link_worker.specs.declared.end.End.TheVariants as end
use Rattle.office.specs.declared.unsent.Unsent.{Unsent}
use Rattle.office.specs.declared.unsent.Unsent.TheVariants as unsent

-- the number by which the end is known
abbrev pub end_number : End → ℕ
end_number end.PeerEnded = 1
end_number end.CutFrame = 2
end_number end.ReadFault = 3
end_number end.WriteFault = 4
end_number (end.BadMessage fault) = 5
end_number end.TooLong = 6
end_number end.Superseded = 7
end_number (end.Refused r) = 8
end_number end.GateShut = 9

-- the end that a refusal makes where the side doesn't go on after it: the link is over, or the office refused for another cause
abbrev pub ending : Refusal → End
ending (refusal.StaleLink now) = end.Superseded
ending refusal.LinkNotUp = end.Superseded
ending refusal.NoSuchBsc = end.Superseded
ending other = end.Refused other

-- an end that a refusal makes: nothing more was submitted
abbrev pub IsRefusedEnd : End → Type 0
IsRefusedEnd end.Superseded = Unit {0}
IsRefusedEnd (end.Refused r) = Unit {0}
IsRefusedEnd other = ⊥

-- the end that a report makes that can't be read, or for which there is no memory
abbrev pub fault_end : MessageFault → End
fault_end fault.Memory = end.Refused refusal.Memory
fault_end other = end.BadMessage other

-- what the refusal of an order or a query ends; nothing where by then nothing was to be sent or asked
abbrev pub order_end : Refusal → Option End
order_end refusal.InFlight = None
order_end refusal.NothingPending = None
order_end refusal.NothingToAsk = None
order_end refusal.NoSuchWarning = None
order_end other = Some (ending other)

-- what the end is where nothing was sent; none where the side goes on
abbrev pub unsent_end : Unsent → Option End
unsent_end unsent.Ended = Some end.Superseded
unsent_end unsent.StaleCentre = Some (end.Refused refusal.Stale)
unsent_end (unsent.Refused r) = order_end r

-- what the refusal of a report ends; nothing where it answers no order in flight
abbrev pub report_end : Refusal → Option End
report_end refusal.NoOrder = None
report_end other = Some (ending other)

-- what holds where a gate was shut
abbrev pub IfShut : Type 0 → End → Type 0
IfShut holds end.GateShut = holds
IfShut holds other = Unit {0}

-- a fault of writing
abbrev pub is_write_fault : End → Bool
is_write_fault end.WriteFault = true
is_write_fault other = false

-- a fault of reading
abbrev pub is_read_fault : End → Bool
is_read_fault end.ReadFault = true
is_read_fault other = false

-- it ends by a fault of writing
abbrev pub fails_to_write : {T : Type 0} → Result T End → Bool
fails_to_write (Ok x) = false
fails_to_write (Err e) = is_write_fault e

-- it ends by a fault of reading
abbrev pub fails_to_read : {T : Type 0} → Result T End → Bool
fails_to_read (Ok x) = false
fails_to_read (Err e) = is_read_fault e
