-- What a console does with octets as they come.
use Rattle.std.specs.Prelude.{◌≡◌, ℕ, ◌<◌, ◌≤◌, Bool, true, false, List, [], ◌∷◌, ◌++◌, length, take, Option, Result, Ok, Err}
use Rattle.std.specs.Io.KnownBytes.{Appends, Consumes}
use Rattle.framing.specs.Sink.{AppendsFront}
use Rattle.console.specs.Sessions.{SessionState, AnswersOrStarves}
use Rattle.console.specs.Text.{IsTextOrStarves}
use Rattle.console_text.specs.Lines.{longest_line, without_return, lines_from}
use Rattle.console_text.specs.Texts.{response_text}
use Rattle.console_text.specs.declared.fault.ReplayFault.{ReplayFault}
use Rattle.console_text.specs.declared.fault.ReplayFault.TheVariants.{ReadFault, WriteFault, Memory, LongLine}
use Rattle.console_text.specs.declared.response.Response.{Response}

-- what contracts see of a console: its session, and the octets of the line that has begun
pub record ConsoleState : Type 0 where
  pub session : SessionState
  pub begun : List ℕ

-- the line that has begun ends, and is answered
pub record EndsLine (old new : ConsoleState) (before after : Option (List ℕ)) : Type 0 where
  pub response : Response
  pub short : length (without_return old.begun) ≤ longest_line
  pub answered : AnswersOrStarves old.session (without_return old.begun) response new.session
  pub written : Appends before after (response_text response)
  pub begun : new.begun ≡ []

-- the line that has begun ends, and its answer is written in part
pub record BreaksInLine (old : ConsoleState) (before after : Option (List ℕ)) : Type 0 where
  pub response : Response
  pub session : SessionState
  pub short : length (without_return old.begun) ≤ longest_line
  pub answered : AnswersOrStarves old.session (without_return old.begun) response session
  pub written : AppendsFront before after (response_text response)

-- why a line that ends is not answered
abbrev pub BreaksLine : ConsoleState → Option (List ℕ) → Option (List ℕ) → ReplayFault → Type 0
BreaksLine old before after ReadFault = ⊥
BreaksLine old before after WriteFault = BreaksInLine old before after
BreaksLine old before after Memory = after ≡ before
BreaksLine old before after LongLine = (longest_line < length (without_return old.begun)) × (after ≡ before)

-- the octets come: some lines end and are answered, and the last one has begun
pub record Goes (old : ConsoleState) (octets : List ℕ) (new : ConsoleState) (before after : Option (List ℕ)) : Type 0 where
  pub lines : List (List ℕ)
  pub text : List ℕ
  pub cut : (rest : List ℕ) → lines_from old.begun (octets ++ rest) ≡ lines ++ lines_from new.begun rest
  pub told : IsTextOrStarves old.session lines new.session text
  pub written : Appends before after text

-- the first of the lines is too long
abbrev pub BeginsLong : List (List ℕ) → Type 0
BeginsLong [] = ⊥
BeginsLong (line ∷ lines) = longest_line < length (without_return line)

-- what a fault at some octets says of the lines that are not answered
abbrev pub Behind : ReplayFault → List (List ℕ) → Type 0
Behind LongLine lines = BeginsLong lines
Behind other lines = Unit {0}

-- how much of the answers before a fault is written
abbrev pub IsWritten : ReplayFault → List ℕ → List ℕ → Type 0
IsWritten WriteFault text part = (count : ℕ) × (part ≡ take count text)
IsWritten other text part = part ≡ text

-- the octets come, and a fault ends the run: the lines before it are answered, and the answers written
pub record Stops (old : ConsoleState) (octets : List ℕ) (before after : Option (List ℕ)) (fault : ReplayFault) : Type 0 where
  pub lines : List (List ℕ)
  pub session : SessionState
  pub text : List ℕ
  pub part : List ℕ
  pub cut : (rest : List ℕ) → (back : List (List ℕ)) × (lines_from old.begun (octets ++ rest) ≡ lines ++ back) × Behind fault back
  pub told : IsTextOrStarves old.session lines session text
  pub written : IsWritten fault text part
  pub appended : Appends before after part

-- a fault of writing
abbrev pub is_write_fault : {T : Type 0} → Result T ReplayFault → Bool
is_write_fault (Ok x) = false
is_write_fault (Err WriteFault) = true
is_write_fault (Err other) = false

-- a fault of reading
abbrev pub is_read_fault : {T : Type 0} → Result T ReplayFault → Bool
is_read_fault (Ok x) = false
is_read_fault (Err ReadFault) = true
is_read_fault (Err other) = false

-- a reader gives octets, and the console takes them
pub record Reads (old new : ConsoleState) (given left before after : Option (List ℕ)) : Type 0 where
  pub octets : List ℕ
  pub consumed : Consumes given left octets
  pub goes : Goes old octets new before after

-- a reader gives octets, and a fault at them ends the run; a read that fails gives none, and nothing is written then
pub record ReadsAndStops (old : ConsoleState) (given left before after : Option (List ℕ)) (fault : ReplayFault) : Type 0 where
  pub octets : List ℕ
  pub consumed : Consumes given left octets
  pub stops : Stops old octets before after fault
  pub unread : fault ≡ ReadFault → Consumes given left [] × (after ≡ before)
