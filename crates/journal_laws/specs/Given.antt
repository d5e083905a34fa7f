-- That every event that is accepted has a line: what a line of the console asks for, what a frame of a BSC reports, and what
-- is of a link.
use Rattle.std.specs.Prelude.{◌≡◌, ◌⊎◌, ℕ, ◌<◌, true, List, Ok}
use Rattle.std.specs.List.{AllByRecursion}
use Rattle.cbsp_messages.specs.Message.{type_of}
use Rattle.cbsp_messages.specs.MessageType.{is_report}
use Rattle.cbsp_messages.specs.Spelling.{Spells}
use Rattle.cbsp_messages.specs.declared.message.Message.{Message}
use Rattle.centre_events.specs.Past.{Past, From, After}
use Rattle.centre_events.specs.Verdict.{verdict}
use Rattle.centre_events.specs.declared.answer.Answer.{Answer}
use Rattle.centre_events.specs.declared.event.Event.{Event}
use Rattle.centre_events.specs.declared.event.Event.TheVariants as event
use Rattle.centre_events.specs.declared.network.Network.{Network}
use Rattle.centre_events.specs.declared.settings.Settings.{Settings}
use Rattle.centre_past.specs.Legal.{Lawful, all_entries}
use Rattle.console.specs.Replays.{new_session}
use Rattle.console.specs.Sessions.{SessionState}
use Rattle.console.specs.Text.{IsTextOrStarves}
use Rattle.hex.specs.Hex.{IsBytes}
use Rattle.journal_text.specs.Laws.{IsAsked, is_of_link, restart_of}
use Rattle.journal_text.specs.Sayable.{HasLine, IsBsc}

-- the message was read of the octets of a frame's body, and a BSC sends it
pub record IsRead (m : Message) : Type 0 where
  pub kind : ℕ
  pub body : List ℕ
  pub octets : IsBytes body
  pub spelled : Spells kind body m
  pub report : is_report (type_of m) ≡ true

-- the message is the RESTART of all cells, which a server enters for a BSC that forgot what it broadcast
pub record IsRestart (m : Message) : Type 0 where
  pub kind : ℕ
  pub recovery : ℕ
  pub low_kind : kind < 16
  pub low_recovery : recovery < 16
  pub same : m ≡ restart_of kind recovery

-- the event is the report of such a message
abbrev pub IsReported : Event → Type 0
IsReported (event.Report b generation m) = IsBsc b × (IsRead m ⊎ IsRestart m)
IsReported other = ⊥

-- the event is of a link, and its numbers are in their ranges, in which the types of their values have them
abbrev pub IsOfLink : Event → Type 0
IsOfLink e = (is_of_link e ≡ true) × HasLine e

-- how an event comes in
abbrev pub IsGiven : Event → Type 0
IsGiven e = IsAsked e ⊎ (IsReported e ⊎ IsOfLink e)

-- an event that comes in so and is accepted has a line
abbrev pub AcceptedHasLine : Type 0
AcceptedHasLine = (settings : Settings) (past : Past) (e : Event) (a : Answer) → Lawful settings past → verdict settings past e ≡ Ok a → IsGiven e → HasLine e

-- the events of all entries after the base of the past are so
abbrev pub AllEvents : (Event → Type 0) → Past → Type 0
AllEvents P (From base) = Unit {0}
AllEvents P (After e before) = P e.event × AllEvents P before

-- so every entry of a centre has a line, where its event came in so
abbrev pub EntriesHaveLines : Type 0
EntriesHaveLines = (settings : Settings) (past : Past) → Lawful settings past → AllEvents IsGiven past → AllEvents HasLine past

-- and so has every entry that the console made of lines, whatever they were, also where memory ran out for some of them
abbrev pub AllEnteredHaveLines : Type 0
AllEnteredHaveLines =
    (network : Network) (limit : ℕ) (lines : List (List ℕ)) (session : SessionState) (text : List ℕ) → IsTextOrStarves (new_session network limit) lines session text
    → AllByRecursion (λ e. HasLine e.event) (all_entries session.centre)
