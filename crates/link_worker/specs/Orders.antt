-- What the side that writes does: the orders and queries that it submits, and the octets that it writes.
use Rattle.std.specs.Prelude.{◌≡◌, ◌⊎◌, ℕ, ◌<◌, List, [], ◌∷◌, ◌++◌, length, take, Option, Some}
use Rattle.std.specs.Io.KnownBytes.{Appends}
use Rattle.std.specs.List.{AllByRecursion, flat_map}
use Rattle.cbsp_messages.specs.Written.{frame_of}
use Rattle.centre_events.specs.declared.answer.Answer.{Answer}
use Rattle.centre_events.specs.declared.answer.Answer.TheVariants.{Sent, Asked}
use Rattle.centre_events.specs.declared.event.Event.{Event}
use Rattle.centre_events.specs.declared.event.Event.TheVariants as event
use Rattle.centre_events.specs.declared.refusal.Refusal.{Refusal}
use Rattle.centre_events.specs.declared.refusal.Refusal.TheVariants as refusal
use Rattle.framing.specs.Sink.{AppendsFront}
use Rattle.link_worker.specs.Ends.{order_end}
use Rattle.link_worker.specs.declared.end.End.{End}
use Rattle.link_worker.specs.declared.end.End.TheVariants as end
use Rattle.office.specs.Desks.{DeskState}
use Rattle.office.specs.Offices.{IsRefusedSomewhere}
use Rattle.office.specs.Wakes.{IsDueSomewhere}
use Rattle.office.specs.declared.receipt.Receipt.{Receipt}
use Rattle.office.specs.declared.wake.Wake.TheVariants as wake

-- the frame of the message in an answer; no octets where it has none
abbrev pub answer_frame : Answer → List ℕ
answer_frame (Sent order message) = frame_of message
answer_frame (Asked m s cells message) = frame_of message
answer_frame other = []

-- the frame of the message in a receipt
abbrev pub receipt_frame : Receipt → List ℕ
receipt_frame r = answer_frame r.answer

-- a Send or an Ask to the BSC, over the link of that generation
abbrev pub IsOrder : ℕ → ℕ → Event → Type 0
IsOrder b generation (event.Send bsc g) = (bsc ≡ b) × (g ≡ generation)
IsOrder b generation (event.Ask bsc g warning after) = (bsc ≡ b) × (g ≡ generation)
IsOrder b generation other = ⊥

-- the receipts came behind the desk's earlier ones, each for an order or a query over the link
pub record Gets (b generation : ℕ) (old : DeskState) (more : List Receipt) (new : DeskState) : Type 0 where
  pub receipts : new.receipts ≡ old.receipts ++ more
  pub orders : AllByRecursion (λ r. IsOrder b generation r.event) more
  pub number : new.number ≡ old.number

-- the frames of the receipts that came are the octets that were written, in order
pub record Writes (b generation : ℕ) (old new : DeskState) (before after : Option (List ℕ)) : Type 0 where
  pub more : List Receipt
  pub gets : Gets b generation old more new
  pub written : Appends before after (flat_map receipt_frame more)

-- how many octets of a frame are written before the end: not all where a write failed, and none else
abbrev pub IsCutAt : End → ℕ → ℕ → Type 0
IsCutAt end.WriteFault count size = count < size
IsCutAt other count size = count ≡ 0

-- the octets that were written are the frames of all receipts that came but the last, and a prefix of that one's frame
pub record StopsAtLast (b generation : ℕ) (old new : DeskState) (before after : Option (List ℕ)) (e : End) : Type 0 where
  pub more : List Receipt
  pub last : Receipt
  pub count : ℕ
  pub gets : Gets b generation old (more ++ last ∷ []) new
  pub cut : IsCutAt e count (length (receipt_frame last))
  pub written : Appends before after (flat_map receipt_frame more ++ take count (receipt_frame last))

-- why nothing more is ordered: some centre was stale, or an order or a query over the link was refused for that cause
abbrev pub IsRefusedOrder : ℕ → ℕ → DeskState → Refusal → Type 0
IsRefusedOrder b generation d r = ((r ≡ refusal.Stale) × IsDueSomewhere b generation wake.StaleCentre) ⊎ ((e : Event) × IsOrder b generation e × IsRefusedSomewhere d e r)

-- the end is the one that such a cause makes
abbrev pub EndsAsUnsent : ℕ → ℕ → DeskState → End → Type 0
EndsAsUnsent b generation d e = (r : Refusal) × (order_end r ≡ Some e) × IsRefusedOrder b generation d r

-- the link is over: an order or a query over it was refused for that, or it was so in some centre
abbrev pub EndsAsOver : ℕ → ℕ → DeskState → Type 0
EndsAsOver b generation d = EndsAsUnsent b generation d end.Superseded ⊎ IsDueSomewhere b generation wake.Ended

-- what was written at each end of the side. Where there was no memory for the last receipt's frame, none of it is written.
abbrev pub EndsWriting : ℕ → ℕ → DeskState → DeskState → Option (List ℕ) → Option (List ℕ) → End → Type 0
EndsWriting b generation old new before after end.WriteFault = StopsAtLast b generation old new before after end.WriteFault
EndsWriting b generation old new before after end.GateShut = StopsAtLast b generation old new before after end.GateShut
EndsWriting b generation old new before after end.Superseded = Writes b generation old new before after × EndsAsOver b generation new
EndsWriting b generation old new before after (end.Refused r) =
    (Writes b generation old new before after × EndsAsUnsent b generation new (end.Refused r)) ⊎ ((r ≡ refusal.Memory) × StopsAtLast b generation old new before after (end.Refused r))
EndsWriting b generation old new before after other = ⊥

-- what was written of a frame at each end
abbrev pub StopsInFrame : Option (List ℕ) → Option (List ℕ) → List ℕ → End → Type 0
StopsInFrame before after frame end.WriteFault = AppendsFront before after frame
StopsInFrame before after frame end.GateShut = after ≡ before
StopsInFrame before after frame (end.Refused r) = (r ≡ refusal.Memory) × (after ≡ before)
StopsInFrame before after frame other = ⊥
