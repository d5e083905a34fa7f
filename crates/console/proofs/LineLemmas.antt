-- From what a line came to, to its answer.
use Rattle.std.proofs.Common.{◌≡◌, ◌⊎◌, inl, inr, ℕ, List, Option, Some, None, Result, Ok, Err, IfOk, refl, sym, ap, subst}
use Rattle.std.specs.Option.{option_map}
use Rattle.std.specs.Prelude.{IsSomeAnd, MatchOption}
use Rattle.cbsp_messages.specs.MessageType.{report_type}
use Rattle.cbsp_messages.specs.declared.message_type.MessageType.{MessageType}
use Rattle.centre_events.specs.declared.event.Event.{Event}
use Rattle.centre_events.specs.declared.event.Event.TheVariants as event
use Rattle.console.specs.Generations.{generation_of, kept_for}
use Rattle.console.specs.Sessions.{BodyStarves, Meets, OctetsStarve, ReportsBody, ReportsOctets, RespondsOrStarves, SaysFault, SessionState, StarvesAt, SubmitsLine, SubmitsOrStarves, link_up_of}
use Rattle.console_text.specs.Events.{IsLineEvent, IsReportEvent, event_or, link_of}
use Rattle.console_text.specs.Headings.{alert_of, content_of, emergency_content_of, notice_of}
use Rattle.console_text.specs.HexText.{octets_of, pages_of, security_of}
use Rattle.console_text.specs.Reports.{BodyComesTo, OctetsComeTo}
use Rattle.console_text.specs.declared.line.Line.{Line}
use Rattle.console_text.specs.declared.line.Line.TheVariants as line
use Rattle.console_text.specs.declared.line_event.LineEvent.{LineEvent}
use Rattle.console_text.specs.declared.line_event.LineEvent.TheVariants as came
use Rattle.console_text.specs.declared.response.Response.{Response}
use Rattle.console_text.specs.declared.text_fault.TextFault.TheVariants as fault
use Rattle.console_text.proofs.ReportLemmas.{digits_carry}
use Rattle.coverage_plan.specs.declared.edit.Edit.{Edit as EditOf}
use Rattle.coverage_plan.specs.declared.edit.Edit.TheVariants as edit

-- ---- a report

body_met : (old : SessionState) (b : ℕ) (t : MessageType) (body : List ℕ) (e : LineEvent) (r : Response) (new : SessionState)
    → BodyComesTo (λ m. e ≡ came.Event (event.Report b (generation_of old.kept b) m)) (λ f. e ≡ came.Bad f) t body → Meets old e r new
    → ReportsBody old b t body r new ⊎ BodyStarves old b t body r new
body_met old b t body e r new (inl h) met = submitted (subst (λ x. Meets old x r new) h.2 met)
  where
    submitted : Meets old (came.Event (event.Report b (generation_of old.kept b) h.0)) r new → ReportsBody old b t body r new ⊎ BodyStarves old b t body r new
    submitted (inl done) = inl (inl (h.0, h.1, done))
    submitted (inr starved) = inr (inr (h.0, h.1, starved))
body_met old b t body e r new (inr h) met = inl (inr (h.0, h.1, subst (λ x. Meets old x r new) h.2 met))

kind_met : (old : SessionState) (b : ℕ) (kind : Option MessageType) (body : List ℕ) (e : LineEvent) (r : Response) (new : SessionState)
    → MatchOption kind (e ≡ came.Bad fault.Skipped) (λ t. BodyComesTo (λ m. e ≡ came.Event (event.Report b (generation_of old.kept b) m)) (λ f. e ≡ came.Bad f) t body) → Meets old e r new
    → MatchOption kind (SaysFault old r new fault.Skipped) (λ t. ReportsBody old b t body r new) ⊎ IsSomeAnd kind (λ t. BodyStarves old b t body r new)
kind_met old b None body e r new is met = inl (subst (λ x. Meets old x r new) is met)
kind_met old b (Some t) body e r new h met = body_met old b t body e r new h met

octets_met : (old : SessionState) (b : ℕ) (octets : List ℕ) (e : LineEvent) (r : Response) (new : SessionState)
    → OctetsComeTo (λ m. e ≡ came.Event (event.Report b (generation_of old.kept b) m)) (λ f. e ≡ came.Bad f) octets → Meets old e r new
    → ReportsOctets old b octets r new ⊎ OctetsStarve old b octets r new
octets_met old b octets e r new (inl h) met = framed (kind_met old b (report_type h.0.kind) h.0.body e r new h.2 met)
  where
    framed : MatchOption (report_type h.0.kind) (SaysFault old r new fault.Skipped) (λ t. ReportsBody old b t h.0.body r new) ⊎ IsSomeAnd (report_type h.0.kind) (λ t. BodyStarves old b t h.0.body r new)
        → ReportsOctets old b octets r new ⊎ OctetsStarve old b octets r new
    framed (inl done) = inl (inl (h.0, h.1, done))
    framed (inr starved) = inr (h.0, h.1, starved)
octets_met old b octets e r new (inr h) met = inl (inr (h.0, subst (λ x. Meets old x r new) h.1 met))

digits_met : (old : SessionState) (b : ℕ) (octets : Option (List ℕ)) (e : LineEvent) (r : Response) (new : SessionState)
    → MatchOption octets (e ≡ came.Bad fault.Hex) (λ xs. OctetsComeTo (λ m. e ≡ came.Event (event.Report b (generation_of old.kept b) m)) (λ f. e ≡ came.Bad f) xs) → Meets old e r new
    → MatchOption octets (SaysFault old r new fault.Hex) (λ xs. ReportsOctets old b xs r new) ⊎ IsSomeAnd octets (λ xs. OctetsStarve old b xs r new)
digits_met old b None e r new is met = inl (subst (λ x. Meets old x r new) is met)
digits_met old b (Some xs) e r new h met = octets_met old b xs e r new h met

report_met : (old : SessionState) (b : ℕ) (text : List ℕ) (e : LineEvent) (r : Response) (new : SessionState) → IsReportEvent (generation_of old.kept b) b text e → Meets old e r new
    → RespondsOrStarves old (line.Report b text) r new
report_met old b text e r new (inl h) met = digits_met old b (octets_of text) e r new h met
report_met old b text e r new (inr h) met =
    inr (digits_carry (λ t body. e ≡ came.Bad fault.Memory) (λ t body. BodyStarves old b t body r new) text (λ t body is. inl (subst (λ x. Meets old x r new) is met)) h)

-- ---- pages, or security information

spelled_met : {A : Type 0} (old : SessionState) (l : Line) (f : A → EditOf) (octets : Option A) (r : Response) (new : SessionState)
    → event_or l None ≡ came.Bad fault.Hex → Meets old (event_or l (option_map (λ x. event.Edit (f x)) octets)) r new
    → SubmitsLine old (option_map (λ x. event.Edit (f x)) octets) r new ⊎ IsSomeAnd (option_map (λ x. event.Edit (f x)) octets) (λ e. StarvesAt old e r new)
spelled_met old l f None r new bad met = inl (subst (λ x. Meets old x r new) bad met)
spelled_met old l f (Some x) r new bad met = met

-- ---- any line

met_so : (old : SessionState) (l : Line) (e : LineEvent) (r : Response) (new : SessionState) → IsLineEvent (kept_for old.kept (link_of l)) l e → Meets old e r new → RespondsOrStarves old l r new
met_so old (line.Report b text) e r new is met = report_met old b text e r new is met
met_so old (line.Issue heading text areas) e r new is met =
    spelled_met old (line.Issue heading text areas) (λ pages. edit.Issue (notice_of heading pages) areas) (pages_of text) r new refl (subst (λ x. Meets old x r new) is met)
met_so old (line.Update warning heading text) e r new is met =
    spelled_met old (line.Update warning heading text) (λ pages. edit.Update warning (content_of heading pages)) (pages_of text) r new refl (subst (λ x. Meets old x r new) is met)
met_so old (line.Alert heading text areas) e r new is met =
    spelled_met old (line.Alert heading text areas) (λ security. edit.Issue (alert_of heading security) areas) (security_of text) r new refl (subst (λ x. Meets old x r new) is met)
met_so old (line.Realert warning heading text) e r new is met =
    spelled_met old (line.Realert warning heading text) (λ security. edit.Update warning (emergency_content_of heading security)) (security_of text) r new refl (subst (λ x. Meets old x r new) is met)
met_so old l e r new is met = subst (λ x. Meets old x r new) is met

-- the answer of a line, by what it came to
pub responded : {E : Type 0} (old new : SessionState) (l : Line) (generation : ℕ) (e : LineEvent) (o : Result Response E) → generation ≡ kept_for old.kept (link_of l)
    → IsLineEvent generation l e → IfOk o (λ r. Meets old e r new) → IfOk o (λ r. RespondsOrStarves old l r new)
responded old new l generation e (Ok r) kept is met = met_so old l e r new (subst (λ g. IsLineEvent g l e) kept is) met
responded old new l generation e (Err error) kept is met = met

-- ---- an event

up_event : (e : Event) (b : ℕ) → link_up_of e ≡ Some b → e ≡ event.LinkUp b
up_event (event.LinkUp c) b is = let same : c ≡ b = cc is in ap event.LinkUp same
up_event e b is = absurd (cc is)

-- a link that comes up
pub entered_link : {E : Type 0} (old new : SessionState) (e : Event) (b : ℕ) (o : Result Response E) → link_up_of e ≡ Some b → IfOk o (λ r. RespondsOrStarves old (line.Up b) r new)
    → IfOk o (λ r. Meets old (came.Event e) r new)
entered_link old new e b o is h = subst (λ x. IfOk o (λ r. Meets old (came.Event x) r new)) (sym (up_event e b is)) h

-- any other event
pub entered_other : (old new : SessionState) (e : Event) (r : Response) → link_up_of e ≡ None → SubmitsOrStarves old e r new → Meets old (came.Event e) r new
entered_other old new (event.LinkUp b) r is h = absurd (cc is)
entered_other old new e r is h = h
