-- A conversation of a simulated BSC over a stream: what it writes for what it reads (3GPP TS 48.049, clause 8).
use Rattle.std.specs.Prelude.{◌≡◌, ◌⊎◌, ℕ, ◌<◌, Bool, true, false, List, [], ◌∷◌, ◌++◌, length, nat_eq, Option, Some, None, Result, Ok, Err, if◌then◌else◌}
use Rattle.std.specs.List.{flat_map}
use Rattle.std.specs.Io.KnownBytes.{Appends, Consumes, IsAtEnd}
use Rattle.framing.specs.AliveFrames.{alive_complete}
use Rattle.framing.specs.Framers.{Framing}
use Rattle.framing.specs.Streams.{Cuts, IsTooLong, BeginsWithNoFrame}
use Rattle.framing.specs.declared.frame.Frame.{Frame}
use Rattle.cbsp_messages.specs.declared.fault.MessageFault.{MessageFault}
use Rattle.cbsp_messages.specs.declared.fault.MessageFault.TheVariants as fault
use Rattle.cbsp_messages.specs.declared.message.Message.{Message}
use Rattle.cbsp_messages.specs.Faults.{IsFault}
use Rattle.cbsp_messages.specs.Spelling.{Spells}
use Rattle.cbsp_messages.specs.Written.{frame_of}
use Rattle.bsc_sim.specs.declared.end.SimEnd.{SimEnd}
use Rattle.bsc_sim.specs.declared.end.SimEnd.TheVariants.{PeerEnded, CutFrame, ReadFault, WriteFault, BadMessage, TooLong, Memory}
use Rattle.bsc_sim.specs.Answering.{answered}
use Rattle.bsc_sim.specs.Bsc.{BscState, emptied}
use Rattle.bsc_sim.specs.Choices.{Chosen}
use Rattle.bsc_sim.specs.Indications.{restart_message}

-- the number by which an end is known
abbrev pub number_of : SimEnd → ℕ
number_of PeerEnded = 1
number_of CutFrame = 2
number_of ReadFault = 3
number_of WriteFault = 4
number_of (BadMessage f) = 5
number_of TooLong = 6
number_of Memory = 7

-- how a conversation ends at a body with the fault
abbrev pub end_of : MessageFault → SimEnd
end_of fault.Memory = Memory
end_of other = BadMessage other

-- the end is a fault of reading
abbrev pub is_read_fault : SimEnd → Bool
is_read_fault ReadFault = true
is_read_fault other = false

-- the end is a fault of writing
abbrev pub is_write_fault : SimEnd → Bool
is_write_fault WriteFault = true
is_write_fault other = false

-- the same of a step, where Ok is no end
abbrev pub ends_by : (SimEnd → Bool) → Result Unit SimEnd → Bool
ends_by test (Ok x) = false
ends_by test (Err end) = test end

-- the frames with which it begins: all cells can broadcast again, messages of either type, and their data are lost
abbrev pub opening : List (List ℕ)
opening = frame_of (restart_message 0 true) ∷ frame_of (restart_message 1 true) ∷ []

-- the octets of frames, one after another
abbrev pub frames_of : List (List ℕ) → List ℕ
frames_of frames = flat_map (λ (frame : List ℕ). frame) frames

-- RESET COMPLETE of all cells: type 11, and a Cell List of form All
abbrev pub reset_complete : List ℕ
reset_complete = 17 ∷ 0 ∷ 0 ∷ 4 ∷ 4 ∷ 0 ∷ 1 ∷ 6 ∷ []

-- the answer to a frame of the link itself, by its type: that to a RESET, type 10, and that to a KEEP ALIVE, type 16
abbrev pub link_answer : ℕ → Option (List ℕ)
link_answer kind = if nat_eq kind 16 then Some reset_complete else (if nat_eq kind 22 then Some alive_complete else None)

-- the BSC after such a frame: a RESET takes every message off air, whatever cells it names
abbrev pub after_link : ℕ → BscState → BscState
after_link kind b = if nat_eq kind 16 then emptied b else b

-- the frame is one of the link itself, and this is its answer
abbrev pub IsOfLink : BscState → Frame → List ℕ → BscState → Type 0
IsOfLink old f octets new = (link_answer f.kind ≡ Some octets) × (new ≡ after_link f.kind old)

-- the frame is a message, and this is the frame of its answer
pub record IsOfMessage (chosen : Chosen) (old : BscState) (f : Frame) (octets : List ℕ) (new : BscState) : Type 0 where
  pub message : Message
  pub other : link_answer f.kind ≡ None
  pub spells : Spells f.kind f.body message
  pub reply : octets ≡ frame_of (answered old chosen message).reply
  pub after : new ≡ (answered old chosen message).after

-- the frame is answered by these octets
abbrev pub IsAnswered : Chosen → BscState → Frame → List ℕ → BscState → Type 0
IsAnswered chosen old f octets new = IsOfLink old f octets new ⊎ IsOfMessage chosen old f octets new

-- these are the answers to the frames in turn
abbrev pub Answers : Chosen → BscState → List Frame → List (List ℕ) → BscState → Type 0
Answers chosen old [] replies new = (replies ≡ []) × (new ≡ old)
Answers chosen old (f ∷ frames) replies new =
    (reply : List ℕ) × (others : List (List ℕ)) × (next : BscState) × IsAnswered chosen old f reply next × (replies ≡ reply ∷ others)
    × Answers chosen next frames others new

-- the first of the frames is neither of the link itself nor a message: its body has the fault
abbrev pub BeginsBadly : List Frame → MessageFault → Type 0
BeginsBadly [] f = ⊥
BeginsBadly (bad ∷ frames) f = (link_answer bad.kind ≡ None) × IsFault bad.kind bad.body f

-- what an end says of the whole frames that were read and not answered
abbrev pub IsBehind : SimEnd → List Frame → Type 0
IsBehind WriteFault behind = Unit {0}
IsBehind Memory behind = Unit {0}
IsBehind (BadMessage f) behind = BeginsBadly behind f
IsBehind other behind = behind ≡ []

-- and of the octets behind all whole frames, and those that are to come
abbrev pub IsLeft : SimEnd → List ℕ → Option (List ℕ) → Type 0
IsLeft PeerEnded rest left = (rest ≡ []) × IsAtEnd left
IsLeft CutFrame rest left = (0 < length rest) × ¬ IsTooLong rest × IsAtEnd left
IsLeft TooLong rest left = IsTooLong rest
IsLeft other rest left = Unit {0}

-- how much of the frames is written: all; but at a fault of writing a part of their octets, and where memory ran out some whole
-- ones
abbrev pub IsWritten : SimEnd → List (List ℕ) → List ℕ → Type 0
IsWritten WriteFault frames part = (back : List ℕ) × (frames_of frames ≡ part ++ back) × (0 < length back)
IsWritten Memory frames part = (front : List (List ℕ)) × (back : List (List ℕ)) × (frames ≡ front ++ back) × (part ≡ frames_of front)
IsWritten other frames part = part ≡ frames_of frames

-- only where memory ran out were octets read of which no frame was cut
abbrev pub IsUncut : SimEnd → List ℕ → Type 0
IsUncut Memory octets = Unit {0}
IsUncut other octets = octets ≡ []

-- a whole conversation: some frames of what was read are answered in turn, and what is written is the opening and the
-- answers, as far as the end says
pub record Converses (chosen : Chosen) (old new : BscState) (given left before after : Option (List ℕ)) (end : SimEnd) : Type 0 where
  pub heard : List ℕ
  pub uncut : List ℕ
  pub frames : List Frame
  pub behind : List Frame
  pub rest : List ℕ
  pub replies : List (List ℕ)
  pub part : List ℕ
  pub consumed : Consumes given left (heard ++ uncut)
  pub none_uncut : IsUncut end uncut
  pub cut : Cuts heard (frames ++ behind) rest
  pub answers : Answers chosen (emptied old) frames replies new
  pub is_behind : IsBehind end behind
  pub is_left : IsLeft end rest left
  pub written : IsWritten end (opening ++ replies) part
  pub appended : Appends before after part

-- ---- parts of a conversation

-- writing ends so
abbrev pub IsSendStop : SimEnd → Type 0
IsSendStop WriteFault = Unit {0}
IsSendStop Memory = Unit {0}
IsSendStop other = ⊥

-- the frames are written in part
pub record SendsInPart (frames : List (List ℕ)) (before after : Option (List ℕ)) (end : SimEnd) : Type 0 where
  pub part : List ℕ
  pub stops : IsSendStop end
  pub written : IsWritten end frames part
  pub appended : Appends before after part

-- an answer ends so
abbrev pub IsStop : SimEnd → Type 0
IsStop WriteFault = Unit {0}
IsStop Memory = Unit {0}
IsStop (BadMessage f) = Unit {0}
IsStop other = ⊥

-- the frames are answered in turn, and the answers written
pub record Replies (chosen : Chosen) (old : BscState) (frames : List Frame) (new : BscState) (before after : Option (List ℕ)) : Type 0 where
  pub replies : List (List ℕ)
  pub answers : Answers chosen old frames replies new
  pub written : Appends before after (frames_of replies)

-- the frames are answered in turn, up to one at which that ends
pub record Breaks (chosen : Chosen) (old : BscState) (frames : List Frame) (new : BscState) (before after : Option (List ℕ)) (end : SimEnd) : Type 0 where
  pub done : List Frame
  pub behind : List Frame
  pub replies : List (List ℕ)
  pub part : List ℕ
  pub stops : IsStop end
  pub parts : frames ≡ done ++ behind
  pub answers : Answers chosen old done replies new
  pub is_behind : IsBehind end behind
  pub written : IsWritten end replies part
  pub appended : Appends before after part

-- a framer has given all frames, and the next may still be read
pub record IsWaiting (f : Framing) : Type 0 where
  pub drained : f.frames ≡ []
  pub partial : BeginsWithNoFrame f.rest
  pub fits : ¬ IsTooLong f.rest

-- octets come behind a rest, and the frames that are whole then are answered
pub record Hears (chosen : Chosen) (old : BscState) (rest octets : List ℕ) (new : BscState) (now : List ℕ) (before after : Option (List ℕ)) : Type 0 where
  pub frames : List Frame
  pub cut : Cuts (rest ++ octets) frames now
  pub replies : Replies chosen old frames new before after

-- the same, up to an end; what is to come is left
pub record HearsInPart (chosen : Chosen) (old : BscState) (rest octets : List ℕ) (new : BscState) (left before after : Option (List ℕ)) (end : SimEnd) : Type 0 where
  pub heard : List ℕ
  pub uncut : List ℕ
  pub frames : List Frame
  pub behind : List Frame
  pub now : List ℕ
  pub replies : List (List ℕ)
  pub part : List ℕ
  pub parts : octets ≡ heard ++ uncut
  pub none_uncut : IsUncut end uncut
  pub cut : Cuts (rest ++ heard) (frames ++ behind) now
  pub answers : Answers chosen old frames replies new
  pub is_behind : IsBehind end behind
  pub is_left : IsLeft end now left
  pub written : IsWritten end replies part
  pub appended : Appends before after part

-- a reader gives octets, and the frames that are whole then are answered
pub record Turns (chosen : Chosen) (old : BscState) (rest : List ℕ) (new : BscState) (now : List ℕ) (given left before after : Option (List ℕ)) : Type 0 where
  pub octets : List ℕ
  pub consumed : Consumes given left octets
  pub hears : Hears chosen old rest octets new now before after

-- the same, up to an end
pub record TurnsInPart (chosen : Chosen) (old : BscState) (rest : List ℕ) (new : BscState) (given left before after : Option (List ℕ)) (end : SimEnd) : Type 0 where
  pub octets : List ℕ
  pub consumed : Consumes given left octets
  pub hears : HearsInPart chosen old rest octets new left before after end
