-- One item: the session that mirrors a centre answers the item's line, and mirrors the centre after it.
use Rattle.std.proofs.Common.{◌≡◌, ◌∙◌, inl, ℕ, ◌+◌, Bool, true, false, List, [], ◌∷◌, ◌++◌, Option, Some, None, Ok, if◌then◌else◌, length, refl, sym, ap, subst}
use Rattle.std.specs.Bool.{MatchBool}
use Rattle.std.specs.Option.{option_map}
use Rattle.coverage_plan.specs.declared.edit.Edit.TheVariants as edit
use Rattle.std.specs.Prelude.{MatchOption}
use Rattle.cbsp_messages.specs.MessageType.{code_of, report_type}
use Rattle.cbsp_messages.specs.Spelling.{Spells}
use Rattle.cbsp_messages.specs.declared.message.Message.{Message}
use Rattle.cbsp_messages.specs.declared.message_type.MessageType.{MessageType}
use Rattle.centre_events.specs.Past.{After}
use Rattle.centre_events.specs.Verdict.{verdict}
use Rattle.centre_events.specs.declared.answer.Answer.{Answer}
use Rattle.centre_events.specs.declared.answer.Answer.TheVariants as answer
use Rattle.centre_events.specs.declared.entry.Entry.{Entry}
use Rattle.centre_events.specs.declared.event.Event.{Event}
use Rattle.centre_events.specs.declared.event.Event.TheVariants as event
use Rattle.centre_events.specs.declared.refusal.Refusal.TheVariants as refusal
use Rattle.centre_past.specs.Legal.{Known, all_entries, checkpointed, past}
use Rattle.console.specs.Generations.{generation_of}
use Rattle.console.specs.Sessions.{Answers, AnswersLine, AnswersWords, BringsUp, Folds, Reports, ReportsBody, ReportsOctets, Responds, Says, SessionState, Submits, SubmitsLine, entered, event_of, verdict_in, with_all_folded, with_link}
use Rattle.console.proofs.SessionLemmas.{verdict_whole}
use Rattle.console_text.specs.Grammar.{line_of}
use Rattle.console_text.specs.Headings.{alert_of, content_of, emergency_content_of, notice_of}
use Rattle.console_text.specs.HexText.{pages_of, security_of}
use Rattle.console_text.specs.Lines.{without_return}
use Rattle.console_text.specs.Words.{is_comment, words_of}
use Rattle.console_text.specs.declared.line.Line.{Line}
use Rattle.console_text.specs.declared.line.Line.TheVariants as line
use Rattle.console_text.specs.declared.response.Response.{Response}
use Rattle.console_text.specs.declared.response.Response.TheVariants as response
use Rattle.journal_text.specs.Reading.{IsLineOf, IsSentIn, NamesKept, StandsFor, asked, request_of}
use Rattle.journal_laws.specs.Files.{Checkpoint, Entered, IsItemLine, IsLegalItem, Item, after_item, item_answer, with_entry}
use Rattle.journal_laws.specs.Replayed.{all_by_desk_1, by_desk_1}
use Rattle.journal_laws.proofs.KeptLemmas.{KeepsLinks, keeps_alike, keeps_links, kept_after, names_kept}
use Rattle.journal_laws.proofs.PastLemmas.{AreAlike, alike_after, alike_folded, checkpoint_base, map_joined, map_length, map_more, past_more, same_verdict}

-- the session has the centre's entries, and keeps the generations of its links
pub record Mirrors (centre : Known) (session : SessionState) : Type 0 where
  pub same : session.centre ≡ all_by_desk_1 centre
  pub whole : centre.stale ≡ false
  pub alike : AreAlike (past session.centre) (past centre)
  pub kept : KeepsLinks (past centre) session.kept

-- the session after an event that is accepted
abbrev pub session_after : SessionState → Event → Answer → SessionState
session_after s e a = record { centre = (entered s e a).centre; kept = kept_after e a s.kept }

abbrev accepted_as : SessionState → Answer → Response
accepted_as s a = response.Accepted (length (all_entries s.centre) + 1) a

-- an event that has its verdict is submitted
submits : (s : SessionState) (e : Event) (a : Answer) → verdict_in s e ≡ Ok a → Submits s e (accepted_as s a) (entered s e a)
submits s e a is = ((is, refl), refl)

-- a link that comes up
after_link : (s : SessionState) (b : ℕ) (a : Answer) → session_after s (event.LinkUp b) a ≡ with_link b a (entered s (event.LinkUp b) a)
after_link s b (answer.Link generation) = refl
after_link s b _ = refl

brings_up : (s : SessionState) (b : ℕ) (a : Answer) → verdict_in s (event.LinkUp b) ≡ Ok a → BringsUp s b (accepted_as s a) (session_after s (event.LinkUp b) a)
brings_up s b a is = ((is, refl), after_link s b a)

-- the message of a frame
reports_frame : (s : SessionState) (b : ℕ) (body : List ℕ) (kind : Option MessageType) (t : MessageType) (m : Message) (r : Response) (new : SessionState) → kind ≡ Some t → Spells (code_of t) body m
    → Submits s (event.Report b (generation_of s.kept b) m) r new → MatchOption kind (Says s response.Skipped r new) (λ u. ReportsBody s b u body r new)
reports_frame s b body kind t m r new is spells submitted =
    subst (λ o. MatchOption o (Says s response.Skipped r new) (λ u. ReportsBody s b u body r new)) (sym is) (inl (m, spells, submitted))

reports : (s : SessionState) (b : ℕ) (text : List ℕ) (m : Message) (r : Response) (new : SessionState) → IsSentIn text m
    → Submits s (event.Report b (generation_of s.kept b) m) r new → Reports s b text r new
reports s b text m r new sent submitted =
    subst (λ o. MatchOption o (Says s response.BadHex r new) (λ octets. ReportsOctets s b octets r new)) (sym sent.spelled)
    (inl (sent.frame, sent.whole, reports_frame s b sent.frame.body (report_type sent.frame.kind) sent.kind m r new sent.report sent.encoded submitted))

-- only a link that comes up changes what is kept
abbrev is_link_up : Event → Bool
is_link_up (event.LinkUp b) = true
is_link_up other = false

abbrev has_link_up : Option Event → Bool
has_link_up None = false
has_link_up (Some e) = is_link_up e

kept_same : (s : SessionState) (e : Event) (a : Answer) → is_link_up e ≡ false → session_after s e a ≡ entered s e a
kept_same s (event.LinkUp b) a other = absurd (cc other)
kept_same s _ a other = refl

mapped : {A : Type 0} (f : A → Event) (o : Option A) (e : Event) → ((x : A) → is_link_up (f x) ≡ false) → option_map f o ≡ Some e → is_link_up e ≡ false
mapped f None e other is = absurd (cc is)
mapped f (Some x) e other is = sym (ap has_link_up is) ∙ other x

submits_line : (s : SessionState) (o : Option Event) (e : Event) (a : Answer) → o ≡ Some e → is_link_up e ≡ false → verdict_in s e ≡ Ok a → SubmitsLine s o (accepted_as s a) (session_after s e a)
submits_line s o e a is other given =
    subst (λ p. SubmitsLine s p (accepted_as s a) (session_after s e a)) (sym is) ((given, refl), kept_same s e a other)

-- what a line asks for is answered, where it stands for the event
pub stands : (s : SessionState) (l : Line) (e : Event) (a : Answer) → StandsFor (generation_of s.kept) l e → verdict_in s e ≡ Ok a → Responds s l (accepted_as s a) (session_after s e a)
stands s (line.Up b) e a is given =
    let same : e ≡ event.LinkUp b = cc is in
    subst (λ x. BringsUp s b (accepted_as s a) (session_after s x a)) (sym same) (brings_up s b a (subst (λ x. verdict_in s x ≡ Ok a) same given))
stands s (line.Report b text) e a is given =
    let report = event.Report b (generation_of s.kept b) is.0 in
    reports s b text is.0 (accepted_as s a) (session_after s e a) is.1
    (subst (λ x. Submits s report (accepted_as s a) (session_after s x a)) (sym is.2) (submits s report a (subst (λ x. verdict_in s x ≡ Ok a) is.2 given)))
stands s (line.Keep b generation) e a is given = absurd (cc is)
stands s (line.Board n) e a is given = absurd (cc is)
stands s (line.AreaBoard n area) e a is given = absurd (cc is)
stands s (line.Pending b) e a is given = absurd (cc is)
stands s (line.Table b) e a is given = absurd (cc is)
stands s line.Rebuild e a is given = absurd (cc is)
stands s line.Checkpoint e a is given = absurd (cc is)
stands s (line.Issue heading text areas) e a is given = submits_line s _ e a is (mapped (λ pages. event.Edit (edit.Issue (notice_of heading pages) areas)) (pages_of text) e (λ x. refl) is) given
stands s (line.Update n heading text) e a is given = submits_line s _ e a is (mapped (λ pages. event.Edit (edit.Update n (content_of heading pages))) (pages_of text) e (λ x. refl) is) given
stands s (line.Alert heading text areas) e a is given = submits_line s _ e a is (mapped (λ octets. event.Edit (edit.Issue (alert_of heading octets) areas)) (security_of text) e (λ x. refl) is) given
stands s (line.Realert n heading text) e a is given = submits_line s _ e a is (mapped (λ octets. event.Edit (edit.Update n (emergency_content_of heading octets))) (security_of text) e (λ x. refl) is) given
stands s l e a is given = submits_line s (event_of s l) e a is (sym (ap has_link_up is)) given

-- the words of a line that asks for something
pub answers_words : (s : SessionState) (words : List (List ℕ)) (l : Line) (r : Response) (new : SessionState) → asked words ≡ Some l → Responds s l r new → AnswersWords Responds s words r new
answers_words s [] l r new is responds = absurd (cc is)
answers_words s (first ∷ words) l r new is responds = step (is_comment first) is
  where
    step : (t : Bool) → (if t then None else line_of (first ∷ words)) ≡ Some l → MatchBool t (Says s response.Silence r new) (AnswersLine Responds s (line_of (first ∷ words)) r new)
    step true none = absurd (cc none)
    step false some = subst (λ o. AnswersLine Responds s o r new) (sym some) responds

-- the line of an event is answered as the event is
answers_event : (s : SessionState) (octets : List ℕ) (e : Event) (a : Answer) → IsLineOf octets e → NamesKept (generation_of s.kept) e → verdict_in s e ≡ Ok a
    → Answers s (without_return octets) (accepted_as s a) (session_after s e a)
answers_event s octets e a line_is names given =
    answers_words s (words_of (without_return octets)) line_is.request (accepted_as s a) (session_after s e a) line_is.asked
    (stands s line_is.request e a (line_is.event (generation_of s.kept) names) given)

-- the session after an item
abbrev pub session_then : SessionState → Item → SessionState
session_then s (Entered e) = session_after s e.event e.answer
session_then s Checkpoint = with_all_folded s

-- a session that mirrors a centre answers the next item's line so
abbrev IsAnswered : Known → SessionState → Item → List ℕ → Type 0
IsAnswered centre s item octets = Answers s (without_return octets) (item_answer centre item) (session_then s item)

module _ (centre : Known) (s : SessionState) (m : Mirrors centre s) where
  stale : s.centre.stale ≡ false
  stale = ap (λ (c : Known). c.stale) m.same ∙ m.whole

  given : (e : Entry) → verdict centre.settings (past centre) e.event ≡ Ok e.answer → verdict_in s e.event ≡ Ok e.answer
  given e is =
      verdict_whole s e.event stale
      ∙ ap (λ (c : Known). verdict c.settings (past s.centre) e.event) m.same
      ∙ same_verdict centre.settings (past s.centre) (past centre) e.event m.alike ∙ is

  counted : length (all_entries s.centre) ≡ length (all_entries centre)
  counted = ap (λ (c : Known). length (all_entries c)) m.same ∙ ap length (sym (map_joined centre.folded centre.journal)) ∙ map_length (all_entries centre)

  in_journal : length s.centre.journal ≡ length centre.journal
  in_journal = ap (λ (c : Known). length c.journal) m.same ∙ map_length centre.journal

  folds : Responds s line.Checkpoint (response.Folded (length centre.journal)) (with_all_folded s)
  folds =
      subst (λ t. MatchBool t (Says s (response.Refused refusal.Stale) (response.Folded (length centre.journal)) (with_all_folded s)) (Folds s (response.Folded (length centre.journal)) (with_all_folded s))) (sym stale)
      (ap response.Folded (sym in_journal), refl)

  -- its answer
  pub answered_item : (item : Item) (octets : List ℕ) → IsLegalItem centre item → IsItemLine item octets → IsAnswered centre s item octets
  answered_item (Entered e) octets legal line_is =
      subst (λ n. Answers s (without_return octets) (response.Accepted n e.answer) (session_after s e.event e.answer)) (ap (λ (n : ℕ). n + 1) counted)
      (answers_event s octets e.event e.answer line_is (names_kept centre.settings (past centre) s.kept e.event e.answer m.kept legal) (given e legal))
  answered_item Checkpoint octets legal line_is =
      subst (λ text. Answers s (without_return text) (response.Folded (length centre.journal)) (with_all_folded s)) (sym line_is) folds

  -- what a line asks for is answered, where it stands for the event of an entry
  pub answered_entry : (e : Entry) (octets : List ℕ) (request : Line) → IsLegalItem centre (Entered e) → request_of octets ≡ Some request
      → (NamesKept (generation_of s.kept) e.event → StandsFor (generation_of s.kept) request e.event) → IsAnswered centre s (Entered e) octets
  answered_entry e octets request legal is stands_for =
      subst (λ n. Answers s (without_return octets) (response.Accepted n e.answer) (session_after s e.event e.answer)) (ap (λ (n : ℕ). n + 1) counted)
      (answers_words s (words_of (without_return octets)) request (accepted_as s e.answer) (session_after s e.event e.answer) is
      (stands s request e.event e.answer (stands_for (names_kept centre.settings (past centre) s.kept e.event e.answer m.kept legal)) (given e legal)))

  -- and so is a checkpoint, however it is written
  pub answered_checkpoint : (octets : List ℕ) → request_of octets ≡ Some line.Checkpoint → IsAnswered centre s Checkpoint octets
  answered_checkpoint octets is =
      answers_words s (words_of (without_return octets)) line.Checkpoint (response.Folded (length centre.journal)) (with_all_folded s) is folds

  -- and it mirrors the centre after the item
  pub mirrors_then : (item : Item) → IsLegalItem centre item → Mirrors (after_item item centre) (session_then s item)
  mirrors_then (Entered e) legal = record {
    same = ap (λ (c : Known). record c { journal = c.journal ++ by_desk_1 e ∷ [] }) m.same ∙ ap (λ (entries : List Entry). record (all_by_desk_1 centre) { journal = entries }) (sym (map_more centre.journal e));
    whole = m.whole;
    alike = subst (λ p. AreAlike p (past (with_entry e centre))) (sym (past_more (by_desk_1 e) s.centre))
        (subst (λ q. AreAlike (After (by_desk_1 e) (past s.centre)) q) (sym (past_more e centre)) (alike_after e (past s.centre) (past centre) m.alike));
    kept = subst (λ p. KeepsLinks p (kept_after e.event e.answer s.kept)) (sym (past_more e centre))
        (keeps_links centre.settings (past centre) s.kept e.desk e.event e.answer m.kept legal);
  }
  mirrors_then Checkpoint legal = record {
    same = ap checkpointed m.same ∙ ap (λ (entries : List Entry). record (all_by_desk_1 centre) { folded = entries; journal = [] }) (sym (map_joined centre.folded centre.journal));
    whole = m.whole;
    alike = alike_folded s.centre centre m.alike;
    kept = keeps_alike (past (checkpointed centre)) (past centre) s.kept (checkpoint_base centre) m.kept;
  }
