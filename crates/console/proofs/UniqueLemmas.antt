-- A line has one answer, and lines have one text.
use Rattle.std.proofs.Common.{◌≡◌, inl, inr, ℕ, ◌+◌, true, false, Option, Some, None, Result, Ok, Err, List, [], ◌∷◌, ◌++◌, length, refl, sym, ap, ◌∙◌, subst}
use Rattle.std.specs.Bool.{MatchBool}
use Rattle.std.specs.Prelude.{MatchOption}
use Rattle.cbsp_messages.specs.Faults.{IsFaultAs}
use Rattle.cbsp_messages.specs.MessageType.{code_of, type_with, report_type}
use Rattle.cbsp_messages.specs.Spelling.{Spells}
use Rattle.cbsp_messages.specs.declared.fault.MessageFault.{MessageFault}
use Rattle.cbsp_messages.specs.declared.fault.MessageFault.TheVariants as fault
use Rattle.cbsp_messages.specs.declared.message.Message.{Message}
use Rattle.cbsp_messages.specs.declared.message_type.MessageType.{MessageType}
use Rattle.cbsp_messages.specs.declared.message_type.MessageType.TheVariants as type
use Rattle.cbsp_messages.proofs.UniqueLemmas.{no_fault_if_spelled, not_whole, one_cut_fault, one_message_at_most, one_whole_fault}
use Rattle.centre_past.specs.Legal.{all_entries, past}
use Rattle.centre_events.specs.declared.answer.Answer.{Answer}
use Rattle.centre_events.specs.declared.event.Event.{Event}
use Rattle.centre_events.specs.declared.event.Event.TheVariants as event
use Rattle.centre_events.specs.declared.refusal.Refusal.{Refusal}
use Rattle.centre_events.specs.declared.refusal.Refusal.TheVariants as refusal
use Rattle.centre_questions.specs.Questions.{value_of}
use Rattle.centre_questions.specs.declared.question.Question.{Question}
use Rattle.centre_questions.specs.declared.question.Question.TheVariants as question
use Rattle.centre_questions.specs.declared.seen_value.SeenValue.{SeenValue}
use Rattle.console.specs.Generations.{generation_of}
use Rattle.console_text.specs.Grammar.{line_of}
use Rattle.console_text.specs.HexText.{octets_of}
use Rattle.console.specs.Sessions.{SessionState, Says, verdict_in, entered, with_link, Submits, BringsUp, Asks, AsksWhole, SaysValue, told, ReportsBody, ReportsFrame, ReportsOctets, event_of, SubmitsLine, Responds, AnswersLine, AnswersWords}
use Rattle.console_text.specs.Words.{is_comment}
use Rattle.console.specs.Text.{IsText}
use Rattle.console_text.specs.Lines.{without_return}
use Rattle.console_text.specs.Texts.{response_text}
use Rattle.console_text.specs.Words.{words_of}
use Rattle.console_text.specs.declared.line.Line.{Line}
use Rattle.console_text.specs.declared.line.Line.TheVariants as line
use Rattle.console_text.specs.declared.response.Response.{Response}
use Rattle.console_text.specs.declared.response.Response.TheVariants as response
use Rattle.console_text.proofs.FrameLemmas.{one_frame}

-- the two answers are the same, and leave the same
abbrev Same : Response → Response → SessionState → SessionState → Type 0
Same r s new last = (r ≡ s) × (new ≡ last)

says_one : (old : SessionState) (said r s : Response) (new last : SessionState) → Says old said r new → Says old said s last → Same r s new last
says_one old said r s new last h k = (h.0 ∙ sym k.0, h.1 ∙ sym k.1)

-- the answer of a verdict, and the session after it
abbrev answer_of : SessionState → Result Answer Refusal → Response
answer_of old (Ok a) = response.Accepted (length (all_entries old.centre) + 1) a
answer_of old (Err r) = response.Refused r

abbrev session_of : SessionState → (Answer → SessionState) → Result Answer Refusal → SessionState
session_of old after (Ok a) = after a
session_of old after (Err r) = old

submits_so : (old : SessionState) (e : Event) (r : Response) (new : SessionState) → Submits old e r new
    → Same r (answer_of old (verdict_in old e)) new (session_of old (entered old e) (verdict_in old e))
submits_so old e (response.Accepted number a) new h =
    subst (λ v. Same (response.Accepted number a) (answer_of old v) new (session_of old (entered old e) v)) (sym h.0.0) (ap (λ n. response.Accepted n a) h.0.1, h.1)
submits_so old e (response.Refused r) new h =
    subst (λ v. Same (response.Refused r) (answer_of old v) new (session_of old (entered old e) v)) (sym h.0) (refl, h.1)
submits_so old e _ new h = absurd h

submits_one : (old : SessionState) (e : Event) (r s : Response) (new last : SessionState) → Submits old e r new → Submits old e s last → Same r s new last
submits_one old e r s new last h k =
    let one = submits_so old e r new h in let two = submits_so old e s last k in (one.0 ∙ sym two.0, one.1 ∙ sym two.1)

brings_up_so : (old : SessionState) (b : ℕ) (r : Response) (new : SessionState) → BringsUp old b r new
    → Same r (answer_of old (verdict_in old (event.LinkUp b))) new
    (session_of old (λ a. with_link b a (entered old (event.LinkUp b) a)) (verdict_in old (event.LinkUp b)))
brings_up_so old b (response.Accepted number a) new h =
    subst (λ v. Same (response.Accepted number a) (answer_of old v) new (session_of old (λ x. with_link b x (entered old (event.LinkUp b) x)) v)) (sym h.0.0) (ap (λ n. response.Accepted n a) h.0.1, h.1)
brings_up_so old b (response.Refused r) new h =
    subst (λ v. Same (response.Refused r) (answer_of old v) new (session_of old (λ x. with_link b x (entered old (event.LinkUp b) x)) v)) (sym h.0) (refl, h.1)
brings_up_so old b _ new h = absurd h

brings_up_one : (old : SessionState) (b : ℕ) (r s : Response) (new last : SessionState) → BringsUp old b r new → BringsUp old b s last → Same r s new last
brings_up_one old b r s new last h k =
    let one = brings_up_so old b r new h in let two = brings_up_so old b s last k in (one.0 ∙ sym two.0, one.1 ∙ sym two.1)

-- the event of a line, or pages that are no octets
event_one : (old : SessionState) (e : Option Event) (r s : Response) (new last : SessionState) → SubmitsLine old e r new → SubmitsLine old e s last → Same r s new last
event_one old None r s new last h k = says_one old response.BadHex r s new last h k
event_one old (Some e) r s new last h k = submits_one old e r s new last h k

-- a body of this type has one fault at most
one_fault : (t : MessageType) (body : List ℕ) (f g : MessageFault) → IsFaultAs t body f → IsFaultAs t body g → f ≡ g
one_fault t body f g (inl h) (inl k) = one_cut_fault body f g h k
one_fault t body f g (inl h) (inr k) = absurd (not_whole body k.elements f k.joined k.once h)
one_fault t body f g (inr h) (inl k) = absurd (not_whole body h.elements g h.joined h.once k)
one_fault t body f g (inr h) (inr k) = one_whole_fault t body f g h k

-- the octet of a type names it
octet_names : (t : MessageType) → type_with (code_of t) ≡ Some t
octet_names type.WriteReplace = refl
octet_names type.WriteComplete = refl
octet_names type.WriteFailure = refl
octet_names type.Kill = refl
octet_names type.KillComplete = refl
octet_names type.KillFailure = refl
octet_names type.StatusQuery = refl
octet_names type.StatusComplete = refl
octet_names type.StatusFailure = refl
octet_names type.Restart = refl
octet_names type.Failure = refl
octet_names type.ErrorIndication = refl

-- and none where it spells a message
no_fault : (t : MessageType) (body : List ℕ) (m : Message) (f : MessageFault) → Spells (code_of t) body m → IsFaultAs t body f → ⊥
no_fault t body m f spells bad =
    no_fault_if_spelled (code_of t) body m f spells (subst (λ kind. MatchOption kind (f ≡ fault.NotInProfile) (λ u. IsFaultAs u body f)) (sym (octet_names t)) bad)

body_one : (old : SessionState) (b : ℕ) (t : MessageType) (body : List ℕ) (r s : Response) (new last : SessionState) → ReportsBody old b t body r new → ReportsBody old b t body s last
    → Same r s new last
body_one old b t body r s new last (inl h) (inl k) =
    submits_one old (event.Report b (generation_of old.kept b) k.0) r s new last
    (subst (λ m. Submits old (event.Report b (generation_of old.kept b) m) r new) (one_message_at_most (code_of t) body h.0 k.0 h.1 k.1) h.2) k.2
body_one old b t body r s new last (inl h) (inr k) = absurd (no_fault t body h.0 k.0 h.1 k.1)
body_one old b t body r s new last (inr h) (inl k) = absurd (no_fault t body k.0 h.0 k.1 h.1)
body_one old b t body r s new last (inr h) (inr k) =
    says_one old (response.BadMessage k.0) r s new last (subst (λ f. Says old (response.BadMessage f) r new) (one_fault t body h.0 k.0 h.1 k.1) h.2) k.2

frame_one : (old : SessionState) (b : ℕ) (body : List ℕ) (kind : Option MessageType) (r s : Response) (new last : SessionState)
    → MatchOption kind (Says old response.Skipped r new) (λ t. ReportsBody old b t body r new)
    → MatchOption kind (Says old response.Skipped s last) (λ t. ReportsBody old b t body s last) → Same r s new last
frame_one old b body (Some t) r s new last h k = body_one old b t body r s new last h k
frame_one old b body None r s new last h k = says_one old response.Skipped r s new last h k

octets_one : (old : SessionState) (b : ℕ) (octets : List ℕ) (r s : Response) (new last : SessionState) → ReportsOctets old b octets r new → ReportsOctets old b octets s last
    → Same r s new last
octets_one old b octets r s new last (inl h) (inl k) =
    frame_one old b k.0.body (report_type k.0.kind) r s new last (subst (λ f. ReportsFrame old b f r new) (one_frame octets h.0 k.0 h.1 k.1) h.2) k.2
octets_one old b octets r s new last (inl h) (inr k) = absurd (k.0 h.0 h.1)
octets_one old b octets r s new last (inr h) (inl k) = absurd (h.0 k.0 k.1)
octets_one old b octets r s new last (inr h) (inr k) = says_one old response.BadFrame r s new last h.1 k.1

reports_one : (old : SessionState) (b : ℕ) (octets : Option (List ℕ)) (r s : Response) (new last : SessionState)
    → MatchOption octets (Says old response.BadHex r new) (λ xs. ReportsOctets old b xs r new)
    → MatchOption octets (Says old response.BadHex s last) (λ xs. ReportsOctets old b xs s last) → Same r s new last
reports_one old b None r s new last h k = says_one old response.BadHex r s new last h k
reports_one old b (Some octets) r s new last h k = octets_one old b octets r s new last h k

-- a question has one answer in a stale centre, where it has one in a whole one
whole_one : (old : SessionState) (asked more : Type 0) (r s : Response) (new last : SessionState) → (asked → more → Same r s new last)
    → AsksWhole old r new asked → AsksWhole old s last more → Same r s new last
whole_one old asked more r s new last one h k =
    elim old.centre.stale as (λ t. MatchBool t (Says old (response.Refused refusal.Stale) r new) asked
    → MatchBool t (Says old (response.Refused refusal.Stale) s last) more → Same r s new last) [
      | true ↦ λ x y. says_one old (response.Refused refusal.Stale) r s new last x y
      | false ↦ λ x y. one x y
    ] h k

-- a question has one answer, and is refused by one cause
value_one : (old : SessionState) (x : Result SeenValue Refusal) (r s : Response) (new last : SessionState) → SaysValue old x r new → SaysValue old x s last → Same r s new last
value_one old (Ok v) r s new last h k = says_one old (told v) r s new last h k
value_one old (Err e) r s new last h k = says_one old (response.Refused e) r s new last h k

asks_one : (old : SessionState) (q : Question) (r s : Response) (new last : SessionState) → Asks old q r new → Asks old q s last → Same r s new last
asks_one old q r s new last h k =
    whole_one old _ _ r s new last (value_one old (value_of (past old.centre) q) r s new last) h k

responds_one : (old : SessionState) (l : Line) (r s : Response) (new last : SessionState) → Responds old l r new → Responds old l s last → Same r s new last
responds_one old (line.Up b) r s new last h k = brings_up_one old b r s new last h k
responds_one old (line.Keep b generation) r s new last h k = (h.0 ∙ sym k.0, h.1 ∙ sym k.1)
responds_one old (line.Report b text) r s new last h k = reports_one old b (octets_of text) r s new last h k
responds_one old (line.Board number) r s new last h k = asks_one old (question.Total number) r s new last h k
responds_one old (line.AreaBoard number a) r s new last h k = asks_one old (question.Area number a) r s new last h k
responds_one old (line.Pending b) r s new last h k = asks_one old (question.Pending b) r s new last h k
responds_one old (line.Table b) r s new last h k = asks_one old (question.Table b) r s new last h k
responds_one old line.Rebuild r s new last h k = (h.0 ∙ sym k.0, h.1 ∙ sym k.1)
responds_one old line.Checkpoint r s new last h k = whole_one old _ _ r s new last (λ x y. (x.0 ∙ sym y.0, x.1 ∙ sym y.1)) h k
responds_one old l r s new last h k = event_one old (event_of old l) r s new last h k

line_one : (old : SessionState) (l : Option Line) (r s : Response) (new last : SessionState) → AnswersLine Responds old l r new → AnswersLine Responds old l s last → Same r s new last
line_one old None r s new last h k = says_one old response.BadLine r s new last h k
line_one old (Some l) r s new last h k = responds_one old l r s new last h k

words_one : (old : SessionState) (words : List (List ℕ)) (r s : Response) (new last : SessionState) → AnswersWords Responds old words r new → AnswersWords Responds old words s last
    → Same r s new last
words_one old [] r s new last h k = says_one old response.Silence r s new last h k
words_one old (first ∷ words) r s new last h k =
    elim (is_comment first) as (λ b. MatchBool b (Says old response.Silence r new) (AnswersLine Responds old (line_of (first ∷ words)) r new)
    → MatchBool b (Says old response.Silence s last) (AnswersLine Responds old (line_of (first ∷ words)) s last) → Same r s new last) [
      | true ↦ λ x y. says_one old response.Silence r s new last x y
      | false ↦ λ x y. line_one old (line_of (first ∷ words)) r s new last x y
    ] h k

pub one_text : (old : SessionState) (lines : List (List ℕ)) (new last : SessionState) (text other : List ℕ) → IsText old lines new text → IsText old lines last other
    → (new ≡ last) × (text ≡ other)
one_text old [] new last text other h k = (h.0 ∙ sym k.0, h.1 ∙ sym k.1)
one_text old (l ∷ lines) new last text other h k =
    let same = words_one old (words_of (without_return l)) h.0 k.0 h.1 k.1 h.4 k.4 in
    let rest = one_text k.1 lines new last h.2 k.2 (subst (λ session. IsText session lines new h.2) same.1 h.5) k.5 in
    (rest.0, h.6 ∙ ap (λ r. response_text r ++ h.2) same.0 ∙ ap (λ t. response_text k.0 ++ t) rest.1 ∙ sym k.6)
