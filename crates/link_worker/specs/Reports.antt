-- What the side that reads does: the frames that it takes, and the reports that it submits.
use Rattle.std.specs.Prelude.{◌≡◌, ◌≢◌, ◌⊎◌, ℕ, true, List, [], ◌∷◌, ◌++◌, Option, Some, None}
use Rattle.std.specs.Io.KnownBytes.{Consumes, IsAtEnd}
use Rattle.std.specs.List.{AllByRecursion, flat_map}
use Rattle.cbsp_messages.specs.Faults.{IsFaultAs}
use Rattle.cbsp_messages.specs.Message.{type_of}
use Rattle.cbsp_messages.specs.MessageType.{is_report, report_type}
use Rattle.cbsp_messages.specs.Spelling.{Spells}
use Rattle.cbsp_messages.specs.declared.fault.MessageFault.{MessageFault}
use Rattle.cbsp_messages.specs.declared.message.Message.{Message}
use Rattle.cbsp_messages.specs.declared.message_type.MessageType.{MessageType}
use Rattle.centre_events.specs.declared.event.Event.{Event}
use Rattle.centre_events.specs.declared.event.Event.TheVariants as event
use Rattle.framing.specs.Streams.{BeginsWithNoFrame, Cuts, IsReadable, IsTooLong, frame_octets}
use Rattle.framing.specs.declared.frame.Frame.{Frame}
use Rattle.centre_events.specs.declared.refusal.Refusal.{Refusal}
use Rattle.centre_events.specs.declared.refusal.Refusal.TheVariants as refusal
use Rattle.link_worker.specs.Ends.{IfShut, IsRefusedEnd, report_end}
use Rattle.link_worker.specs.declared.end.End.{End}
use Rattle.link_worker.specs.declared.end.End.TheVariants as end
use Rattle.office.specs.Desks.{DeskState}
use Rattle.office.specs.Offices.{IsRefusedSomewhere}
use Rattle.office.specs.declared.receipt.Receipt.{Receipt}

-- the frame is that of a report, and its body is an encoding of the message
pub record IsReport (frame : Frame) (m : Message) : Type 0 where
  pub report : is_report (type_of m) ≡ true
  pub spells : Spells frame.kind frame.body m

-- the frame is of another type, or a report that can be read
abbrev pub IsTaken : Frame → Type 0
IsTaken frame = (report_type frame.kind ≡ None) ⊎ ((m : Message) × IsReport frame m)

-- the receipt is for the report in the frame
pub record IsReceiptFor (b generation : ℕ) (frame : Frame) (r : Receipt) : Type 0 where
  pub message : Message
  pub report : IsReport frame message
  pub event : r.event ≡ event.Report b generation message

-- the receipts are for reports in some of the frames, in the order of the frames, at most one for each
abbrev pub AreReceiptsFor : ℕ → ℕ → List Receipt → List Frame → Type 0
AreReceiptsFor b generation [] frames = Unit {0}
AreReceiptsFor b generation (r ∷ rs) [] = ⊥
AreReceiptsFor b generation (r ∷ rs) (frame ∷ frames) =
    (IsReceiptFor b generation frame r × AreReceiptsFor b generation rs frames) ⊎ AreReceiptsFor b generation (r ∷ rs) frames

-- the frames were taken: each is of another type or could be read, and the receipts that came behind the desk's earlier ones are for
-- reports in some of them
pub record TakesReports (b generation : ℕ) (frames : List Frame) (old new : DeskState) : Type 0 where
  pub more : List Receipt
  pub receipts : new.receipts ≡ old.receipts ++ more
  pub number : new.number ≡ old.number
  pub reports : AreReceiptsFor b generation more frames
  pub readable : AllByRecursion IsTaken frames

-- the frame is that of a report, and has this fault
pub record IsBadReport (frame : Frame) (f : MessageFault) : Type 0 where
  pub type : MessageType
  pub is_type : report_type frame.kind ≡ Some type
  pub fault : IsFaultAs type frame.body f

-- the octets begin with the frame of a report that has this fault
pub record BeginsWithBadReport (octets : List ℕ) (f : MessageFault) : Type 0 where
  pub frame : Frame
  pub after : List ℕ
  pub parts : octets ≡ frame_octets frame ++ after
  pub short : IsReadable frame
  pub bad : IsBadReport frame f

-- the octets have no whole frame at their front, and announce none that is too long
pub record IsPartial (octets : List ℕ) : Type 0 where
  pub partial : BeginsWithNoFrame octets
  pub fits : ¬ IsTooLong octets

-- the report in the frame was refused over the link, and the end is the one that this refusal makes
pub record IsRefusedReport (b generation : ℕ) (d : DeskState) (e : End) (frame : Frame) : Type 0 where
  pub message : Message
  pub report : IsReport frame message
  pub cause : Refusal
  pub makes : report_end cause ≡ Some e
  pub refused : IsRefusedSomewhere d (event.Report b generation message) cause

-- the octets begin with the frame of such a report
pub record BeginsWithRefused (b generation : ℕ) (d : DeskState) (e : End) (octets : List ℕ) : Type 0 where
  pub frame : Frame
  pub after : List ℕ
  pub parts : octets ≡ frame_octets frame ++ after
  pub short : IsReadable frame
  pub refused : IsRefusedReport b generation d e frame

-- the first of the frames is that of such a report
abbrev pub IsFirstRefused : ℕ → ℕ → DeskState → End → List Frame → Type 0
IsFirstRefused b generation d e [] = ⊥
IsFirstRefused b generation d e (frame ∷ frames) = IsRefusedReport b generation d e frame

-- the last of the frames is that of a report
pub record IsLastReport (frames : List Frame) : Type 0 where
  pub before : List Frame
  pub frame : Frame
  pub message : Message
  pub parts : frames ≡ before ++ frame ∷ []
  pub report : IsReport frame message

-- what each end says of the octets that were read and not taken, of those that the reader has left, and of the cause
abbrev pub EndsAt : ℕ → ℕ → DeskState → End → List ℕ → Option (List ℕ) → Type 0
EndsAt b generation d end.PeerEnded tail left = (tail ≡ []) × IsAtEnd left
EndsAt b generation d end.CutFrame tail left = (tail ≢ []) × (IsPartial tail × IsAtEnd left)
EndsAt b generation d end.ReadFault tail left = IsPartial tail
EndsAt b generation d end.WriteFault tail left = ⊥
EndsAt b generation d (end.BadMessage f) tail left = BeginsWithBadReport tail f
EndsAt b generation d end.TooLong tail left = IsTooLong tail
EndsAt b generation d end.Superseded tail left = BeginsWithRefused b generation d end.Superseded tail
EndsAt b generation d (end.Refused r) tail left = (r ≡ refusal.Memory) ⊎ BeginsWithRefused b generation d (end.Refused r) tail
EndsAt b generation d end.GateShut tail left = Unit {0}

-- octets were read, behind those of a frame that has begun: they are frames, which were taken, and a tail. A gate that was shut
-- comes behind a report.
pub record EndsReading (b generation : ℕ) (begun : List ℕ) (old new : DeskState) (before after : Option (List ℕ)) (e : End) : Type 0 where
  pub octets : List ℕ
  pub frames : List Frame
  pub tail : List ℕ
  pub consumed : Consumes before after octets
  pub parts : begun ++ octets ≡ flat_map frame_octets frames ++ tail
  pub short : AllByRecursion IsReadable frames
  pub takes : TakesReports b generation frames old new
  pub ends : EndsAt b generation new e tail after
  pub shut : IfShut (IsLastReport frames) e

-- octets were read, behind those of a frame that has begun, and may be followed by others: all whole frames were taken
pub record Reads (b generation : ℕ) (begun : List ℕ) (old new : DeskState) (before after : Option (List ℕ)) (rest : List ℕ) : Type 0 where
  pub octets : List ℕ
  pub frames : List Frame
  pub consumed : Consumes before after octets
  pub cuts : Cuts (begun ++ octets) frames rest
  pub fits : ¬ IsTooLong rest
  pub takes : TakesReports b generation frames old new

-- the same of the octets of one read
pub record TakesPiece (b generation : ℕ) (begun piece rest : List ℕ) (old new : DeskState) : Type 0 where
  pub frames : List Frame
  pub cuts : Cuts (begun ++ piece) frames rest
  pub fits : ¬ IsTooLong rest
  pub takes : TakesReports b generation frames old new

-- what an end in a piece says of the octets that were not taken, and of the cause
abbrev pub EndsWithin : ℕ → ℕ → DeskState → End → List ℕ → Type 0
EndsWithin b generation d (end.BadMessage f) tail = BeginsWithBadReport tail f
EndsWithin b generation d end.TooLong tail = IsTooLong tail
EndsWithin b generation d end.Superseded tail = BeginsWithRefused b generation d end.Superseded tail
EndsWithin b generation d (end.Refused r) tail = (r ≡ refusal.Memory) ⊎ BeginsWithRefused b generation d (end.Refused r) tail
EndsWithin b generation d end.GateShut tail = Unit {0}
EndsWithin b generation d other tail = ⊥

-- the side ends in a piece: some frames were taken, and a tail was not
pub record StopsInPiece (b generation : ℕ) (begun piece : List ℕ) (old new : DeskState) (e : End) : Type 0 where
  pub frames : List Frame
  pub tail : List ℕ
  pub parts : begun ++ piece ≡ flat_map frame_octets frames ++ tail
  pub short : AllByRecursion IsReadable frames
  pub takes : TakesReports b generation frames old new
  pub ends : EndsWithin b generation new e tail
  pub shut : IfShut (IsLastReport frames) e

-- what an end at some frames says of those that were not taken, and of the cause
abbrev pub EndsBefore : ℕ → ℕ → DeskState → End → List Frame → Type 0
EndsBefore b generation d (end.BadMessage f) (frame ∷ frames) = IsBadReport frame f
EndsBefore b generation d end.Superseded frames = IsFirstRefused b generation d end.Superseded frames
EndsBefore b generation d (end.Refused r) frames = (r ≡ refusal.Memory) ⊎ IsFirstRefused b generation d (end.Refused r) frames
EndsBefore b generation d end.GateShut frames = Unit {0}
EndsBefore b generation d other frames = ⊥

-- the side ends at some of the frames: those before were taken
pub record StopsAmong (b generation : ℕ) (frames : List Frame) (old new : DeskState) (e : End) : Type 0 where
  pub taken : List Frame
  pub left : List Frame
  pub parts : frames ≡ taken ++ left
  pub takes : TakesReports b generation taken old new
  pub ends : EndsBefore b generation new e left
  pub shut : IfShut (IsLastReport taken) e

-- the event may have been accepted: then its receipt came behind the desk's earlier ones
abbrev pub MayGet : Event → DeskState → DeskState → Type 0
MayGet e old new =
    (new.number ≡ old.number) × ((new.receipts ≡ old.receipts) ⊎ ((r : Receipt) × (r.event ≡ e) × (new.receipts ≡ old.receipts ++ r ∷ [])))

-- the event was refused, and the end is the one that this refusal makes
pub record IsRefusal (event : Event) (old new : DeskState) (e : End) : Type 0 where
  pub cause : Refusal
  pub makes : report_end cause ≡ Some e
  pub refused : IsRefusedSomewhere new event cause
  pub is_refused : IsRefusedEnd e
  pub receipts : new.receipts ≡ old.receipts
  pub number : new.number ≡ old.number

-- an end at a report that was read
abbrev pub IsSubmitEnd : Event → DeskState → DeskState → End → Type 0
IsSubmitEnd event old new e = IsRefusal event old new e ⊎ (e ≡ end.GateShut)

-- what the end of the stream is, by the octets of a frame that has begun
abbrev pub stream_end : List ℕ → End
stream_end [] = end.PeerEnded
stream_end (octet ∷ octets) = end.CutFrame
