-- A whole run: what is written is the text of what was read.
use Rattle.std.specs.Prelude.{◌≡◌, ◌⊎◌, ℕ, ◌≤◌, List, [], ◌∷◌, ◌++◌, length, Option}
use Rattle.std.specs.Io.KnownBytes.{Appends, Consumes, IsAtEnd}
use Rattle.centre_past.specs.Legal.{new_centre}
use Rattle.centre_events.specs.declared.network.Network.{Network}
use Rattle.centre_events.specs.declared.refusal.Refusal.TheVariants as refusal
use Rattle.console.specs.Consoles.{BeginsLong, IsWritten}
use Rattle.console.specs.Sessions.{SessionState, LineStarves}
use Rattle.console.specs.Text.{IsText, IsTextOrStarves}
use Rattle.console_text.specs.Lines.{longest_line, without_return, lines_of}
use Rattle.console_text.specs.Texts.{refused_text}
use Rattle.console_text.specs.declared.fault.ReplayFault.{ReplayFault}
use Rattle.console_text.specs.declared.fault.ReplayFault.TheVariants.{ReadFault, LongLine}
use Rattle.console_text.specs.declared.response.Response.TheVariants as response

-- a session in which nothing has happened
abbrev pub new_session : Network → ℕ → SessionState
new_session network limit = record { centre = new_centre network limit; kept = [] }

-- memory ran out for a line where it may be: the lines before it have their text, and it is answered by that
pub record MeetsWant (old : SessionState) (lines : List (List ℕ)) (new : SessionState) (text : List ℕ) : Type 0 where
  pub front : List (List ℕ)
  pub line : List ℕ
  pub back : List (List ℕ)
  pub session : SessionState
  pub after : SessionState
  pub answered : List ℕ
  pub rest : List ℕ
  pub cut : lines ≡ front ++ line ∷ back
  pub told : IsText old front session answered
  pub short : length (without_return line) ≤ longest_line
  pub starved : LineStarves session (without_return line) (response.Refused refusal.Memory) after
  pub more : IsTextOrStarves after back new rest
  pub text_is : text ≡ answered ++ (refused_text refusal.Memory ++ rest)

-- all of the input was read, and its text written
pub record Replays (start : SessionState) (given left before after : Option (List ℕ)) : Type 0 where
  pub octets : List ℕ
  pub session : SessionState
  pub text : List ℕ
  pub consumed : Consumes given left octets
  pub ended : IsAtEnd left
  pub told : IsText start (lines_of octets) session text ⊎ MeetsWant start (lines_of octets) session text
  pub written : Appends before after text

-- what a fault says of the lines that are not answered: a read failed before the last line ended, or the first is too long
abbrev pub IsLeft : ReplayFault → List (List ℕ) → Type 0
IsLeft ReadFault lines = length lines ≡ 1
IsLeft LongLine lines = BeginsLong lines
IsLeft other lines = Unit {0}

-- a fault ended the run: some of the lines that were read are answered, and what is written is a prefix of their text
pub record BreaksOff (start : SessionState) (given left before after : Option (List ℕ)) (fault : ReplayFault) : Type 0 where
  pub octets : List ℕ
  pub lines : List (List ℕ)
  pub back : List (List ℕ)
  pub session : SessionState
  pub text : List ℕ
  pub part : List ℕ
  pub consumed : Consumes given left octets
  pub cut : lines_of octets ≡ lines ++ back
  pub behind : IsLeft fault back
  pub told : IsText start lines session text ⊎ MeetsWant start lines session text
  pub written : IsWritten fault text part
  pub appended : Appends before after part
