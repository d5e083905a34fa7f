-- How a session answers a line, and what it is then.
use Rattle.std.specs.Prelude.{◌≡◌, ◌⊎◌, ℕ, ◌+◌, ◌==◌, Bool, true, false, List, [], ◌∷◌, ◌++◌, length, Option, Some, None, Result, Ok, Err, IsOk, IsSomeAnd, MatchOption, if◌then◌else◌}
use Rattle.std.specs.Bool.{MatchBool}
use Rattle.cbsp_messages.specs.MessageType.{code_of}
use Rattle.cbsp_messages.specs.Spelling.{Spells}
use Rattle.cbsp_messages.specs.declared.message.Message.{Message}
use Rattle.cbsp_messages.specs.declared.message_type.MessageType.{MessageType}
use Rattle.centre_events.specs.Kept.{MayStarve}
use Rattle.centre_past.specs.Legal.{Known, all_entries, checkpointed, past}
use Rattle.centre_events.specs.Links.{is_bsc}
use Rattle.centre_events.specs.Verdict.{verdict}
use Rattle.centre_events.specs.declared.answer.Answer.{Answer}
use Rattle.centre_events.specs.declared.answer.Answer.TheVariants.{Link}
use Rattle.centre_events.specs.declared.entry.Entry.{Entry}
use Rattle.centre_events.specs.declared.event.Event.{Event}
use Rattle.centre_events.specs.declared.event.Event.TheVariants as event
use Rattle.centre_events.specs.declared.refusal.Refusal.{Refusal}
use Rattle.centre_events.specs.declared.refusal.Refusal.TheVariants as refusal
use Rattle.centre_questions.specs.Questions.{takes_memory, value_of}
use Rattle.centre_questions.specs.declared.question.Question.{Question}
use Rattle.centre_questions.specs.declared.question.Question.TheVariants as question
use Rattle.centre_questions.specs.declared.seen_value.SeenValue.{SeenValue}
use Rattle.centre_questions.specs.declared.seen_value.SeenValue.TheVariants as value
use Rattle.framing.specs.declared.frame.Frame.{Frame}
use Rattle.console_text.specs.Events.{event_with, fault_response}
use Rattle.console.specs.Generations.{generation_of, with_generation}
use Rattle.console_text.specs.Grammar.{line_of}
use Rattle.console_text.specs.Reports.{BodyComesTo, DigitsCarry, DigitsComeTo, FrameComesTo, OctetsCarry, OctetsComeTo}
use Rattle.console_text.specs.Words.{is_comment, words_of}
use Rattle.console.specs.declared.kept.Kept.{Kept}
use Rattle.console_text.specs.declared.line.Line.{Line}
use Rattle.console_text.specs.declared.line.Line.TheVariants as line
use Rattle.console_text.specs.declared.line_event.LineEvent.{LineEvent}
use Rattle.console_text.specs.declared.line_event.LineEvent.TheVariants as came
use Rattle.console_text.specs.declared.response.Response.{Response}
use Rattle.console_text.specs.declared.response.Response.TheVariants as response
use Rattle.console_text.specs.declared.text_fault.TextFault.{TextFault}

-- what contracts see of a session: its centre, and the generations kept for the BSCs
pub record SessionState : Type 0 where
  pub centre : Known
  pub kept : List Kept

-- the answer changes nothing
abbrev pub Says : SessionState → Response → Response → SessionState → Type 0
Says old said r new = (r ≡ said) × (new ≡ old)

-- the entry of an event that desk 1 submitted
abbrev pub entry_of : Event → Answer → Entry
entry_of e a = record { desk = 1; event = e; answer = a }

-- the event is the last entry of the journal
abbrev pub entered : SessionState → Event → Answer → SessionState
entered s e a = record s { centre = record s.centre { journal = s.centre.journal ++ entry_of e a ∷ [] } }

-- the generation of a link that came up is kept
abbrev pub with_link : ℕ → Answer → SessionState → SessionState
with_link b (Link generation) s = record s { kept = with_generation b generation s.kept }
with_link b other s = s

-- what an event is answered: a stale centre refuses every event
abbrev pub verdict_in : SessionState → Event → Result Answer Refusal
verdict_in s e = if s.centre.stale then Err refusal.Stale else verdict s.centre.settings (past s.centre) e

-- the event is accepted with this answer, as the entry of this number
abbrev pub Accepts : SessionState → Event → ℕ → Answer → Type 0
Accepts old e number a = (verdict_in old e ≡ Ok a) × (number ≡ length (all_entries old.centre) + 1)

-- the event is submitted: accepted, or refused with nothing changed
abbrev pub Submits : SessionState → Event → Response → SessionState → Type 0
Submits old e (response.Accepted number a) new = Accepts old e number a × (new ≡ entered old e a)
Submits old e (response.Refused r) new = (verdict_in old e ≡ Err r) × (new ≡ old)
Submits old e other new = ⊥

-- the link of the BSC comes up
abbrev pub BringsUp : SessionState → ℕ → Response → SessionState → Type 0
BringsUp old b (response.Accepted number a) new = Accepts old (event.LinkUp b) number a × (new ≡ with_link b a (entered old (event.LinkUp b) a))
BringsUp old b (response.Refused r) new = (verdict_in old (event.LinkUp b) ≡ Err r) × (new ≡ old)
BringsUp old b other new = ⊥

-- a stale centre refuses what a whole one is asked
abbrev pub AsksWhole : SessionState → Response → SessionState → Type 0 → Type 0
AsksWhole old r new asked = MatchBool old.centre.stale (Says old (response.Refused refusal.Stale) r new) asked

-- what a question is answered, as a line tells it; no line asks where a cell is, nor what is in flight, nor for another
-- list
abbrev pub told : SeenValue → Response
told (value.Numbers numbers) = response.Board numbers
told (value.Pending orders) = response.Pending orders
told (value.Table keys) = response.Table keys
told other = response.Silence

-- there is a line for the question
abbrev pub HasLine : Question → Type 0
HasLine (question.Total w) = Unit {0}
HasLine (question.Area w a) = Unit {0}
HasLine (question.Pending b) = Unit {0}
HasLine (question.Table b) = Unit {0}
HasLine other = ⊥

-- a question for which there is a line is answered so
abbrev pub IsToldInLine : SeenValue → Type 0
IsToldInLine (value.Numbers numbers) = Unit {0}
IsToldInLine (value.Pending orders) = Unit {0}
IsToldInLine (value.Table keys) = Unit {0}
IsToldInLine other = ⊥

-- the answer to a question, or why there is none
abbrev pub SaysValue : SessionState → Result SeenValue Refusal → Response → SessionState → Type 0
SaysValue old (Ok v) r new = Says old (told v) r new
SaysValue old (Err refused) r new = Says old (response.Refused refused) r new

-- the centre is asked
abbrev pub Asks : SessionState → Question → Response → SessionState → Type 0
Asks old q r new = AsksWhole old r new (SaysValue old (value_of (past old.centre) q) r new)

-- the centre is whole or stale, with the same journal
abbrev pub with_stale : Bool → SessionState → SessionState
with_stale is_stale s = record s { centre = record s.centre { stale = is_stale } }

-- the centre is made whole from its journal
abbrev pub Rebuilds : SessionState → Response → SessionState → Type 0
Rebuilds old r new = (r ≡ response.Rebuilt) × (new ≡ with_stale false old)

-- the entries of the journal are folded
abbrev pub with_all_folded : SessionState → SessionState
with_all_folded s = record s { centre = checkpointed s.centre }

-- they are folded, and the answer is how many they are
abbrev pub Folds : SessionState → Response → SessionState → Type 0
Folds old r new = (r ≡ response.Folded (length old.centre.journal)) × (new ≡ with_all_folded old)

-- a stale centre folds none
abbrev pub Checkpoints : SessionState → Response → SessionState → Type 0
Checkpoints old r new = AsksWhole old r new (Folds old r new)

-- the generation is kept for the BSC, which need not be there
abbrev pub Keeps : SessionState → ℕ → ℕ → Response → SessionState → Type 0
Keeps old b generation r new = (r ≡ response.Set) × (new ≡ record old { kept = with_generation b generation old.kept })

-- the report of a message is submitted
abbrev pub SubmitsReport : SessionState → ℕ → Response → SessionState → Message → Type 0
SubmitsReport old b r new m = Submits old (event.Report b (generation_of old.kept b) m) r new

-- what is wrong with the octets is answered
abbrev pub SaysFault : SessionState → Response → SessionState → TextFault → Type 0
SaysFault old r new f = Says old (fault_response f) r new

-- the message of this type that the octets spell, or what is wrong with them
abbrev pub ReportsBody : SessionState → ℕ → MessageType → List ℕ → Response → SessionState → Type 0
ReportsBody old b t body r new = BodyComesTo (λ m. SubmitsReport old b r new m) (λ f. SaysFault old r new f) t body

-- a frame of a BSC
abbrev pub ReportsFrame : SessionState → ℕ → Frame → Response → SessionState → Type 0
ReportsFrame old b frame r new = FrameComesTo (λ m. SubmitsReport old b r new m) (λ f. SaysFault old r new f) frame

-- octets of a BSC, which are to be one frame
abbrev pub ReportsOctets : SessionState → ℕ → List ℕ → Response → SessionState → Type 0
ReportsOctets old b octets r new = OctetsComeTo (λ m. SubmitsReport old b r new m) (λ f. SaysFault old r new f) octets

-- a message of a BSC, as hexadecimal digits
abbrev pub Reports : SessionState → ℕ → List ℕ → Response → SessionState → Type 0
Reports old b text r new = DigitsComeTo (λ m. SubmitsReport old b r new m) (λ f. SaysFault old r new f) text

-- the event that a line stands for
abbrev pub event_of : SessionState → Line → Option Event
event_of old l = event_with (λ b. generation_of old.kept b) l

-- the event of a line is submitted; where there is none, its pages are no octets, or its security information isn't fifty
abbrev pub SubmitsLine : SessionState → Option Event → Response → SessionState → Type 0
SubmitsLine old e r new = MatchOption e (Says old response.BadHex r new) (λ e. Submits old e r new)

-- the answer to a line, and the session after it
abbrev pub Responds : SessionState → Line → Response → SessionState → Type 0
Responds old (line.Up b) r new = BringsUp old b r new
Responds old (line.Keep b generation) r new = Keeps old b generation r new
Responds old (line.Report b text) r new = Reports old b text r new
Responds old (line.Board warning) r new = Asks old (question.Total warning) r new
Responds old (line.AreaBoard warning a) r new = Asks old (question.Area warning a) r new
Responds old (line.Pending b) r new = Asks old (question.Pending b) r new
Responds old (line.Table b) r new = Asks old (question.Table b) r new
Responds old line.Rebuild r new = Rebuilds old r new
Responds old line.Checkpoint r new = Checkpoints old r new
Responds old l r new = SubmitsLine old (event_of old l) r new

-- memory may run out for an event: the centre is whole, and may answer so
abbrev pub MayStarveAt : SessionState → Event → Type 0
MayStarveAt old e = (old.centre.stale ≡ false) × MayStarve old.centre.settings (past old.centre) e

-- memory ran out, and nothing changed
abbrev pub IsStarved : SessionState → Response → SessionState → Type 0
IsStarved old r new = Says old (response.Refused refusal.Memory) r new

-- memory ran out, and the centre is stale now
abbrev pub LeavesStale : SessionState → Response → SessionState → Type 0
LeavesStale old r new = Says (with_stale true old) (response.Refused refusal.Memory) r new

-- memory ran out for an event where it may be: nothing changed, or the centre is stale now
abbrev pub StarvesAt : SessionState → Event → Response → SessionState → Type 0
StarvesAt old e r new = MayStarveAt old e × (IsStarved old r new ⊎ LeavesStale old r new)

-- the event is submitted, or memory ran out where it may be
abbrev pub SubmitsOrStarves : SessionState → Event → Response → SessionState → Type 0
SubmitsOrStarves old e r new = Submits old e r new ⊎ StarvesAt old e r new

-- memory ran out while a message of this type was read, and nothing changed, or for the event of the message
abbrev pub BodyStarves : SessionState → ℕ → MessageType → List ℕ → Response → SessionState → Type 0
BodyStarves old b t body r new =
    IsStarved old r new
    ⊎ ((m : Message) × Spells (code_of t) body m × StarvesAt old (event.Report b (generation_of old.kept b) m) r new)

-- the octets are one frame that a BSC sends, for whose message memory ran out
abbrev pub OctetsStarve : SessionState → ℕ → List ℕ → Response → SessionState → Type 0
OctetsStarve old b octets r new = OctetsCarry (λ t body. BodyStarves old b t body r new) octets

-- memory ran out for the answer that a whole centre has to a question
abbrev pub QuestionStarves : SessionState → Question → Response → SessionState → Type 0
QuestionStarves old q r new = (old.centre.stale ≡ false) × (takes_memory (past old.centre) q ≡ true) × IsOk (value_of (past old.centre) q) × IsStarved old r new

-- the centre is asked, or memory ran out for the answer
abbrev pub AsksOrStarves : SessionState → Question → Response → SessionState → Type 0
AsksOrStarves old q r new = Asks old q r new ⊎ QuestionStarves old q r new

-- memory ran out for a list of a BSC that is there, of a whole centre
abbrev pub ListStarves : SessionState → ℕ → Response → SessionState → Type 0
ListStarves old b r new = (old.centre.stale ≡ false) × (is_bsc (past old.centre) b ≡ true) × IsStarved old r new

-- memory ran out for a line where it may be: for the message of an `rx`, for a list of a BSC, while the centre was
-- made whole or a whole one folded its journal, and at the event that the line stands for; at an event alone is the centre
-- left stale
abbrev pub Starves : SessionState → Line → Response → SessionState → Type 0
Starves old (line.Report b text) r new = DigitsCarry (λ t body. BodyStarves old b t body r new) text
Starves old (line.Pending b) r new = ListStarves old b r new
Starves old (line.Table b) r new = ListStarves old b r new
Starves old line.Rebuild r new = IsStarved old r new
Starves old line.Checkpoint r new = (old.centre.stale ≡ false) × IsStarved old r new
Starves old l r new = IsSomeAnd (event_of old l) (λ e. StarvesAt old e r new)

-- the line has its answer, or memory ran out where it may be
abbrev pub RespondsOrStarves : SessionState → Line → Response → SessionState → Type 0
RespondsOrStarves old l r new = Responds old l r new ⊎ Starves old l r new

-- a line that stands for no event has its answer; any other would be a bad line
abbrev pub MeetsOther : SessionState → Line → Response → SessionState → Type 0
MeetsOther old (line.Keep b generation) r new = RespondsOrStarves old (line.Keep b generation) r new
MeetsOther old (line.Board warning) r new = RespondsOrStarves old (line.Board warning) r new
MeetsOther old (line.AreaBoard warning a) r new = RespondsOrStarves old (line.AreaBoard warning a) r new
MeetsOther old (line.Pending b) r new = RespondsOrStarves old (line.Pending b) r new
MeetsOther old (line.Table b) r new = RespondsOrStarves old (line.Table b) r new
MeetsOther old line.Rebuild r new = RespondsOrStarves old line.Rebuild r new
MeetsOther old line.Checkpoint r new = RespondsOrStarves old line.Checkpoint r new
MeetsOther old other r new = Says old response.BadLine r new

-- the BSC whose link the event brings up
abbrev pub link_up_of : Event → Option ℕ
link_up_of (event.LinkUp b) = Some b
link_up_of other = None

-- a line that came to that has its answer, or memory ran out where it may be
abbrev pub Meets : SessionState → LineEvent → Response → SessionState → Type 0
Meets old (came.Event (event.LinkUp b)) r new = RespondsOrStarves old (line.Up b) r new
Meets old (came.Event e) r new = SubmitsOrStarves old e r new
Meets old (came.Bad f) r new = SaysFault old r new f
Meets old (came.Other l) r new = MeetsOther old l r new

-- how the lines that ask for something are answered
abbrev pub Responding : Type 1
Responding = SessionState → Line → Response → SessionState → Type 0

-- a line of these words asks for something, or is bad
abbrev pub AnswersLine : Responding → SessionState → Option Line → Response → SessionState → Type 0
AnswersLine responds old None r new = Says old response.BadLine r new
AnswersLine responds old (Some l) r new = responds old l r new

-- blank lines and comments are answered by nothing
abbrev pub AnswersWords : Responding → SessionState → List (List ℕ) → Response → SessionState → Type 0
AnswersWords responds old [] r new = Says old response.Silence r new
AnswersWords responds old (first ∷ words) r new = MatchBool (is_comment first) (Says old response.Silence r new) (AnswersLine responds old (line_of (first ∷ words)) r new)

-- a line of these octets is answered so
abbrev pub Answers : SessionState → List ℕ → Response → SessionState → Type 0
Answers old octets r new = AnswersWords Responds old (words_of octets) r new

-- memory ran out for a line of these octets
abbrev pub LineStarves : SessionState → List ℕ → Response → SessionState → Type 0
LineStarves old octets r new = AnswersWords Starves old (words_of octets) r new

-- a line of these octets is answered so, or memory ran out where it may be
abbrev pub AnswersOrStarves : SessionState → List ℕ → Response → SessionState → Type 0
AnswersOrStarves old octets r new = AnswersWords RespondsOrStarves old (words_of octets) r new
