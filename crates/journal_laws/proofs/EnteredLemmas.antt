-- Every entry that the console makes of lines has a line.
use Rattle.std.proofs.Common.{◌≡◌, ◌∙◌, ℕ, Bool, true, false, List, [], ◌∷◌, ◌++◌, Option, Some, None, Result, Ok, Err, inl, inr, if◌then◌else◌, refl, sym, ap, subst, append-nil}
use Rattle.std.specs.Bool.{MatchBool}
use Rattle.std.specs.List.{AllByRecursion}
use Rattle.std.specs.Prelude.{IsSomeAnd, MatchOption}
use Rattle.cbsp_messages.specs.MessageType.{report_type}
use Rattle.cbsp_messages.specs.declared.message_type.MessageType.{MessageType}
use Rattle.centre_events.specs.Verdict.{verdict}
use Rattle.centre_events.specs.declared.answer.Answer.{Answer}
use Rattle.centre_events.specs.declared.answer.Answer.TheVariants as answer
use Rattle.centre_events.specs.declared.entry.Entry.{Entry}
use Rattle.centre_events.specs.declared.event.Event.{Event}
use Rattle.centre_events.specs.declared.event.Event.TheVariants as event
use Rattle.centre_events.specs.declared.refusal.Refusal.{Refusal}
use Rattle.centre_events.specs.declared.refusal.Refusal.TheVariants as refusal
use Rattle.centre_past.specs.Legal.{Known, Lawful, all_entries, checkpointed, new_centre, past}
use Rattle.centre_past.proofs.LawfulLemmas.{legal_lawful, whole}
use Rattle.centre_questions.specs.Questions.{value_of}
use Rattle.centre_questions.specs.declared.question.Question.{Question}
use Rattle.centre_questions.specs.declared.question.Question.TheVariants as question
use Rattle.centre_questions.specs.declared.seen_value.SeenValue.{SeenValue}
use Rattle.console.specs.Generations.{generation_of}
use Rattle.console.specs.Replays.{new_session}
use Rattle.console.specs.Sessions.{AnswersLine, AnswersWords, Asks, AsksWhole, BodyStarves, BringsUp, Folds, OctetsStarve, Reports, ReportsBody, ReportsOctets, Responds, RespondsOrStarves, Says, SaysValue, SessionState, Starves, StarvesAt, Submits, SubmitsLine, entered, entry_of, event_of, told, verdict_in, with_link, with_stale}
use Rattle.console.specs.Text.{IsTextOrStarves}
use Rattle.console_text.specs.Frames.{IsFrame}
use Rattle.console_text.specs.Grammar.{line_of}
use Rattle.console_text.specs.HexText.{octets_of}
use Rattle.console_text.specs.Lines.{without_return}
use Rattle.console_text.specs.Words.{is_comment, words_of}
use Rattle.console_text.specs.declared.line.Line.{Line}
use Rattle.console_text.specs.declared.line.Line.TheVariants as line
use Rattle.console_text.specs.declared.response.Response.{Response}
use Rattle.console_text.specs.declared.response.Response.TheVariants as response
use Rattle.framing.specs.declared.frame.Frame.{Frame}
use Rattle.journal_text.specs.Laws.{IsAsked}
use Rattle.journal_text.specs.Reading.{StandsFor, asked}
use Rattle.journal_text.specs.Sayable.{HasLine}
use Rattle.journal_laws.specs.Files.{with_entry}
use Rattle.journal_laws.specs.Given.{AllEnteredHaveLines}
use Rattle.journal_laws.proofs.GivenLemmas.{accepted_has_line}
use Rattle.journal_laws.proofs.PastLemmas.{checkpoint_base, past_more}

-- the entries have lines, and the past is lawful
record HasLines (centre : Known) : Type 0 where
  lawful : Lawful centre.settings (past centre)
  lines : AllByRecursion (λ (e : Entry). HasLine e.event) (all_entries centre)

abbrev Holds : SessionState → Type 0
Holds s = HasLines s.centre

-- ---- what becomes of them

staled : (is_stale : Bool) (s : SessionState) → Holds s → Holds (with_stale is_stale s)
staled is_stale s h = record { lawful = h.lawful; lines = h.lines }

unchanged : (old : SessionState) (said r : Response) (new : SessionState) → Holds old → Says old said r new → Holds new
unchanged old said r new h says = subst Holds (sym says.1) h

all_more : (P : Entry → Type 0) (xs ys : List Entry) (e : Entry) → AllByRecursion P (xs ++ ys) → P e → AllByRecursion P (xs ++ (ys ++ e ∷ []))
all_more P [] [] e h is = (is, tt)
all_more P [] (y ∷ ys) e h is = (h.0, all_more P [] ys e h.1 is)
all_more P (x ∷ xs) ys e h is = (h.0, all_more P xs ys e h.1 is)

one_more : (centre : Known) (e : Entry) → verdict centre.settings (past centre) e.event ≡ Ok e.answer → IsAsked e.event → HasLines centre → HasLines (with_entry e centre)
one_more centre e is given h = record {
  lawful = subst (Lawful centre.settings) (sym (past_more e centre)) (is, h.lawful);
  lines = all_more (λ (x : Entry). HasLine x.event) centre.folded centre.journal e h.lines (accepted_has_line centre.settings (past centre) e.event e.answer h.lawful is (inl given));
}

folded_lines : (centre : Known) → HasLines centre → HasLines (checkpointed centre)
folded_lines centre h =
    let w = whole centre.settings (past centre) h.lawful in
    record {
      lawful = record { full = w.full; legal = w.legal; same = w.same ∙ sym (checkpoint_base centre) };
      lines = subst (AllByRecursion (λ (x : Entry). HasLine x.event)) (sym (append-nil (all_entries centre))) h.lines;
    }

-- a verdict of a session is one of its centre
given_by_past : (old : SessionState) (e : Event) (a : Answer) → verdict_in old e ≡ Ok a → verdict old.centre.settings (past old.centre) e ≡ Ok a
given_by_past old e a is = step old.centre.stale is
  where
    step : (t : Bool) → (if t then Err refusal.Stale else verdict old.centre.settings (past old.centre) e) ≡ Ok a → verdict old.centre.settings (past old.centre) e ≡ Ok a
    step true none = absurd (cc none)
    step false some = some

entered_lines : (old : SessionState) (e : Event) (a : Answer) → Holds old → IsAsked e → verdict_in old e ≡ Ok a → Holds (entered old e a)
entered_lines old e a h given is = one_more old.centre (entry_of e a) (given_by_past old e a is) given h

submitted : (old : SessionState) (e : Event) (r : Response) (new : SessionState) → Holds old → IsAsked e → Submits old e r new → Holds new
submitted old e (response.Accepted number a) new h given done = subst Holds (sym done.1) (entered_lines old e a h given done.0.0)
submitted old e (response.Refused r) new h given done = subst Holds (sym done.1) h
submitted old e _ new h given done = absurd done

linked : (b : ℕ) (a : Answer) (s : SessionState) → Holds s → Holds (with_link b a s)
linked b (answer.Link generation) s h = h
linked b _ s h = h

brought_up : (old : SessionState) (b : ℕ) (r : Response) (new : SessionState) → Holds old → IsAsked (event.LinkUp b) → BringsUp old b r new → Holds new
brought_up old b (response.Accepted number a) new h given done =
    subst Holds (sym done.1) (linked b a (entered old (event.LinkUp b) a) (entered_lines old (event.LinkUp b) a h given done.0.0))
brought_up old b (response.Refused r) new h given done = subst Holds (sym done.1) h
brought_up old b _ new h given done = absurd done

submitted_line : (old : SessionState) (o : Option Event) (r : Response) (new : SessionState) → Holds old → ((e : Event) → o ≡ Some e → IsAsked e) → SubmitsLine old o r new → Holds new
submitted_line old None r new h given done = unchanged old response.BadHex r new h done
submitted_line old (Some e) r new h given done = submitted old e r new h (given e refl) done

-- a question
asked_whole : (old : SessionState) (r : Response) (new : SessionState) (whole_asked : Type 0) → Holds old → (whole_asked → Holds new) → AsksWhole old r new whole_asked → Holds new
asked_whole old r new whole_asked h why done = step old.centre.stale done
  where
    step : (t : Bool) → MatchBool t (Says old (response.Refused refusal.Stale) r new) whole_asked → Holds new
    step true says = unchanged old (response.Refused refusal.Stale) r new h says
    step false rest = why rest

valued : (old : SessionState) (v : Result SeenValue Refusal) (r : Response) (new : SessionState) → Holds old → SaysValue old v r new → Holds new
valued old (Ok v) r new h says = unchanged old (told v) r new h says
valued old (Err e) r new h says = unchanged old (response.Refused e) r new h says

questioned : (old : SessionState) (q : Question) (r : Response) (new : SessionState) → Holds old → Asks old q r new → Holds new
questioned old q r new h done = asked_whole old r new (SaysValue old (value_of (past old.centre) q) r new) h (valued old (value_of (past old.centre) q) r new h) done

-- ---- the message of a frame

module _ (old : SessionState) (b : ℕ) (text : List ℕ) (r : Response) (new : SessionState) (h : Holds old)
    (given : (e : Event) → StandsFor (generation_of old.kept) (line.Report b text) e → IsAsked e) where
  body_reported : (octets : List ℕ) (frame : Frame) (t : MessageType) → octets_of text ≡ Some octets → IsFrame octets frame → report_type frame.kind ≡ Some t → ReportsBody old b t frame.body r new → Holds new
  body_reported octets frame t spelled whole_frame kind (inl done) =
      submitted old (event.Report b (generation_of old.kept b) done.0) r new h
      (given (event.Report b (generation_of old.kept b) done.0)
      (done.0, record { octets = octets; frame = frame; kind = t; spelled = spelled; whole = whole_frame; report = kind; encoded = done.1 }, refl)) done.2
  body_reported octets frame t spelled whole_frame kind (inr done) = unchanged old (response.BadMessage done.0) r new h done.2

  frame_reported : (octets : List ℕ) (frame : Frame) (o : Option MessageType) → octets_of text ≡ Some octets → IsFrame octets frame → report_type frame.kind ≡ o
      → MatchOption o (Says old response.Skipped r new) (λ t. ReportsBody old b t frame.body r new) → Holds new
  frame_reported octets frame None spelled whole_frame kind done = unchanged old response.Skipped r new h done
  frame_reported octets frame (Some t) spelled whole_frame kind done = body_reported octets frame t spelled whole_frame kind done

  octets_reported : (octets : List ℕ) → octets_of text ≡ Some octets → ReportsOctets old b octets r new → Holds new
  octets_reported octets spelled (inl done) = frame_reported octets done.0 (report_type done.0.kind) spelled done.1 refl done.2
  octets_reported octets spelled (inr done) = unchanged old response.BadFrame r new h done.1

  text_reported : (o : Option (List ℕ)) → octets_of text ≡ o → MatchOption o (Says old response.BadHex r new) (λ octets. ReportsOctets old b octets r new) → Holds new
  text_reported None spelled done = unchanged old response.BadHex r new h done
  text_reported (Some octets) spelled done = octets_reported octets spelled done

  reported : Reports old b text r new → Holds new
  reported done = text_reported (octets_of text) refl done

-- ---- a line that asks for something

responded : (old : SessionState) (l : Line) (r : Response) (new : SessionState) → Holds old → ((e : Event) → StandsFor (generation_of old.kept) l e → IsAsked e) → Responds old l r new → Holds new
responded old (line.Up b) r new h given done = brought_up old b r new h (given (event.LinkUp b) refl) done
responded old (line.Keep b generation) r new h given done = subst Holds (sym done.1) h
responded old (line.Report b text) r new h given done = reported old b text r new h given done
responded old (line.Board n) r new h given done = questioned old (question.Total n) r new h done
responded old (line.AreaBoard n a) r new h given done = questioned old (question.Area n a) r new h done
responded old (line.Pending b) r new h given done = questioned old (question.Pending b) r new h done
responded old (line.Table b) r new h given done = questioned old (question.Table b) r new h done
responded old line.Rebuild r new h given done = subst Holds (sym done.1) (staled false old h)
responded old line.Checkpoint r new h given done = asked_whole old r new (Folds old r new) h (λ folds. subst Holds (sym folds.1) (folded_lines old.centre h)) done
responded old l r new h given done = submitted_line old (event_of old l) r new h given done

-- ---- where memory ran out

starved_at : (old : SessionState) (e : Event) (r : Response) (new : SessionState) → Holds old → StarvesAt old e r new → Holds new
starved_at old e r new h (may, inl same) = unchanged old (response.Refused refusal.Memory) r new h same
starved_at old e r new h (may, inr stale) = subst Holds (sym stale.1) (staled true old h)

starved_line : (old : SessionState) (o : Option Event) (r : Response) (new : SessionState) → Holds old → IsSomeAnd o (λ e. StarvesAt old e r new) → Holds new
starved_line old None r new h done = absurd done
starved_line old (Some e) r new h done = starved_at old e r new h done

body_starved : (old : SessionState) (b : ℕ) (t : MessageType) (body : List ℕ) (r : Response) (new : SessionState) → Holds old → BodyStarves old b t body r new → Holds new
body_starved old b t body r new h (inl same) = unchanged old (response.Refused refusal.Memory) r new h same
body_starved old b t body r new h (inr at) = starved_at old (event.Report b (generation_of old.kept b) at.0) r new h at.2

frame_starved : (old : SessionState) (b : ℕ) (body : List ℕ) (o : Option MessageType) (r : Response) (new : SessionState) → Holds old → IsSomeAnd o (λ t. BodyStarves old b t body r new) → Holds new
frame_starved old b body None r new h done = absurd done
frame_starved old b body (Some t) r new h done = body_starved old b t body r new h done

text_starved : (old : SessionState) (b : ℕ) (o : Option (List ℕ)) (r : Response) (new : SessionState) → Holds old → IsSomeAnd o (λ octets. OctetsStarve old b octets r new) → Holds new
text_starved old b None r new h done = absurd done
text_starved old b (Some octets) r new h done = frame_starved old b done.0.body (report_type done.0.kind) r new h done.2

starved : (old : SessionState) (l : Line) (r : Response) (new : SessionState) → Holds old → Starves old l r new → Holds new
starved old (line.Report b text) r new h done = text_starved old b (octets_of text) r new h done
starved old (line.Pending b) r new h done = unchanged old (response.Refused refusal.Memory) r new h done.2
starved old (line.Table b) r new h done = unchanged old (response.Refused refusal.Memory) r new h done.2
starved old line.Rebuild r new h done = unchanged old (response.Refused refusal.Memory) r new h done
starved old line.Checkpoint r new h done = unchanged old (response.Refused refusal.Memory) r new h done.1
starved old l r new h done = starved_line old (event_of old l) r new h done

-- ---- all lines

words_answered : (old : SessionState) (octets : List ℕ) (words : List (List ℕ)) (r : Response) (new : SessionState) → Holds old → words_of (without_return octets) ≡ words
    → AnswersWords RespondsOrStarves old words r new → Holds new
words_answered old octets [] r new h same done = unchanged old response.Silence r new h done
words_answered old octets (first ∷ words) r new h same done = step (is_comment first) refl done
  where
    line_answered : (o : Option Line) → asked (first ∷ words) ≡ o → AnswersLine RespondsOrStarves old o r new → Holds new
    line_answered None is bad = unchanged old response.BadLine r new h bad
    line_answered (Some l) is (inl responds) =
        responded old l r new h (λ e stands. record { octets = octets; request = l; kept = generation_of old.kept; asked = ap asked same ∙ is; stands = stands }) responds
    line_answered (Some l) is (inr starves) = starved old l r new h starves

    step : (t : Bool) → is_comment first ≡ t → MatchBool t (Says old response.Silence r new) (AnswersLine RespondsOrStarves old (line_of (first ∷ words)) r new) → Holds new
    step true is says = unchanged old response.Silence r new h says
    step false is answers = line_answered (line_of (first ∷ words)) (ap (λ (t : Bool). if t then None else line_of (first ∷ words)) is) answers

all_answered : (lines : List (List ℕ)) (old new : SessionState) (text : List ℕ) → Holds old → IsTextOrStarves old lines new text → Holds new
all_answered [] old new text h done = subst Holds (sym done.0) h
all_answered (line ∷ lines) old new text h done =
    all_answered lines done.1 new done.2 (words_answered old line (words_of (without_return line)) done.0 done.1 h refl done.4) done.5

pub all_entered_have_lines : AllEnteredHaveLines
all_entered_have_lines network limit lines session text done =
    (all_answered lines (new_session network limit) session text (record { lawful = legal_lawful (new_centre network limit).settings (past (new_centre network limit)) refl; lines = tt }) done).lines
