-- What the hexadecimal digits of a report come to: the message of one frame, which a BSC sends, or a fault.
use Rattle.std.specs.Prelude.{◌⊎◌, ℕ, List, IsSomeAnd, MatchOption}
use Rattle.cbsp_messages.specs.Faults.{IsFaultAs}
use Rattle.cbsp_messages.specs.MessageType.{code_of, report_type}
use Rattle.cbsp_messages.specs.Spelling.{Spells}
use Rattle.cbsp_messages.specs.declared.fault.MessageFault.{MessageFault}
use Rattle.cbsp_messages.specs.declared.message.Message.{Message}
use Rattle.cbsp_messages.specs.declared.message_type.MessageType.{MessageType}
use Rattle.console_text.specs.Frames.{IsFrame, IsNoFrame}
use Rattle.console_text.specs.HexText.{octets_of}
use Rattle.console_text.specs.declared.text_fault.TextFault.{TextFault}
use Rattle.console_text.specs.declared.text_fault.TextFault.TheVariants as fault
use Rattle.framing.specs.declared.frame.Frame.{Frame}

-- P of the message of this type that the octets spell, or Q of what is wrong with them
abbrev pub BodyComesTo : (Message → Type 0) → (TextFault → Type 0) → MessageType → List ℕ → Type 0
BodyComesTo P Q t body =
    ((m : Message) × Spells (code_of t) body m × P m)
    ⊎ ((f : MessageFault) × IsFaultAs t body f × Q (fault.Message f))

-- the same of a frame of a BSC; it is skipped where its type is not that of a message that a BSC sends
abbrev pub FrameComesTo : (Message → Type 0) → (TextFault → Type 0) → Frame → Type 0
FrameComesTo P Q frame = MatchOption (report_type frame.kind) (Q fault.Skipped) (λ t. BodyComesTo P Q t frame.body)

-- the same of octets, which are to be one frame
abbrev pub OctetsComeTo : (Message → Type 0) → (TextFault → Type 0) → List ℕ → Type 0
OctetsComeTo P Q octets =
    ((frame : Frame) × IsFrame octets frame × FrameComesTo P Q frame)
    ⊎ (IsNoFrame octets × Q fault.Frame)

-- the same of hexadecimal digits
abbrev pub DigitsComeTo : (Message → Type 0) → (TextFault → Type 0) → List ℕ → Type 0
DigitsComeTo P Q text = MatchOption (octets_of text) (Q fault.Hex) (λ octets. OctetsComeTo P Q octets)

-- the octets are one frame of a type that a BSC sends, with R of the type and the body
abbrev pub OctetsCarry : (MessageType → List ℕ → Type 0) → List ℕ → Type 0
OctetsCarry R octets = (frame : Frame) × IsFrame octets frame × IsSomeAnd (report_type frame.kind) (λ t. R t frame.body)

-- the hexadecimal digits spell such octets
abbrev pub DigitsCarry : (MessageType → List ℕ → Type 0) → List ℕ → Type 0
DigitsCarry R text = IsSomeAnd (octets_of text) (λ octets. OctetsCarry R octets)
