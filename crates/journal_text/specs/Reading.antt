-- What a line asks for, by the grammar of the console, and the event that this is.
use Rattle.std.specs.Prelude.{◌≡◌, ℕ, ◌≤◌, Bool, true, false, List, [], ◌∷◌, Option, Some, None, length, if◌then◌else◌}
use Rattle.cbsp_messages.specs.MessageType.{code_of, report_type}
use Rattle.cbsp_messages.specs.Spelling.{Spells}
use Rattle.cbsp_messages.specs.declared.message.Message.{Message}
use Rattle.cbsp_messages.specs.declared.message_type.MessageType.{MessageType}
use Rattle.centre_events.specs.declared.event.Event.{Event}
use Rattle.centre_events.specs.declared.event.Event.TheVariants as event
use Rattle.console_text.specs.Events.{event_with}
use Rattle.console_text.specs.Frames.{IsFrame}
use Rattle.console_text.specs.Grammar.{line_of}
use Rattle.console_text.specs.HexText.{octets_of}
use Rattle.console_text.specs.Lines.{longest_line, without_return}
use Rattle.console_text.specs.Parts.{HasNone}
use Rattle.console_text.specs.Words.{is_comment, words_of}
use Rattle.console_text.specs.declared.line.Line.{Line}
use Rattle.console_text.specs.declared.line.Line.TheVariants as line
use Rattle.framing.specs.declared.frame.Frame.{Frame}
use Rattle.journal_text.specs.Texts.{line_text}
use Rattle.journal_text.specs.Sayable.{HasLine}

-- what the words ask for; blank lines and comments ask for nothing
abbrev pub asked : List (List ℕ) → Option Line
asked [] = None
asked (first ∷ words) = if is_comment first then None else line_of (first ∷ words)

-- what a line of these octets asks for
abbrev pub request_of : List ℕ → Option Line
request_of octets = asked (words_of (without_return octets))

-- the hexadecimal digits spell one frame, and its body is an encoding of this message, which a BSC sends
pub record IsSentIn (text : List ℕ) (m : Message) : Type 0 where
  pub octets : List ℕ
  pub frame : Frame
  pub kind : MessageType
  pub spelled : octets_of text ≡ Some octets
  pub whole : IsFrame octets frame
  pub report : report_type frame.kind ≡ Some kind
  pub encoded : Spells (code_of kind) frame.body m

-- the event is the one that the line stands for
abbrev pub StandsFor : (ℕ → ℕ) → Line → Event → Type 0
StandsFor kept (line.Report b text) e = (m : Message) × IsSentIn text m × (e ≡ event.Report b (kept b) m)
StandsFor kept other e = event_with kept other ≡ Some e

-- the generation kept for the event's BSC is the one that the event names, if it names one
abbrev pub NamesKept : (ℕ → ℕ) → Event → Type 0
NamesKept kept (event.LinkDown b generation) = kept b ≡ generation
NamesKept kept (event.Send b generation) = kept b ≡ generation
NamesKept kept (event.Ask b generation n after) = kept b ≡ generation
NamesKept kept (event.Report b generation m) = kept b ≡ generation
NamesKept kept other = Unit {0}

-- the octets are one line, short enough to be read, with no return at its end, and what it asks for is the event
pub record IsLineOf (octets : List ℕ) (e : Event) : Type 0 where
  pub request : Line
  pub single : HasNone 10 octets
  pub whole : without_return octets ≡ octets
  pub short : length octets ≤ longest_line
  pub asked : request_of octets ≡ Some request
  pub event : (kept : ℕ → ℕ) → NamesKept kept e → StandsFor kept request e

-- whether the event has a line, and its text where it has one
abbrev pub IsWritten : Event → Bool → List ℕ → Type 0
IsWritten e true text = HasLine e × (text ≡ line_text e)
IsWritten e false text = HasLine e → ⊥

-- the line of the event; none where it has none
abbrev pub IsLineFor : Event → Option (List ℕ) → Type 0
IsLineFor e None = HasLine e → ⊥
IsLineFor e (Some text) = HasLine e × IsLineOf text e
