-- A line that is taken, step by step.
use Rattle.std.proofs.Common.{◌≡◌, ◌≢◌, ◌∙◌, ◌⊎◌, inl, inr, ℕ, Bool, true, false, List, Option, Some, None, Result, Ok, Err, IfOk, IfErr, if◌then◌else◌, length, refl, sym, ap, subst}
use Rattle.std.specs.Bool.{MatchBool}
use Rattle.centre_core.specs.Centre.{Leaves, Refuses}
use Rattle.centre_events.specs.Links.{is_bsc}
use Rattle.centre_events.specs.Past.{Past}
use Rattle.centre_events.specs.Verdict.{verdict}
use Rattle.centre_events.specs.declared.event.Event.{Event}
use Rattle.centre_events.specs.declared.refusal.Refusal.{Refusal}
use Rattle.centre_events.specs.declared.refusal.Refusal.TheVariants as refusal
use Rattle.centre_past.specs.Legal.{Known, all_entries, checkpointed, past}
use Rattle.console_text.specs.Events.{IsLineEvent, link_of}
use Rattle.console_text.specs.declared.line.Line.{Line}
use Rattle.console_text.specs.declared.line.Line.TheVariants as line
use Rattle.console_text.specs.declared.line_event.LineEvent.{LineEvent}
use Rattle.console_text.specs.declared.line_event.LineEvent.TheVariants as came
use Rattle.journal_file.specs.declared.take_line.NotTaken.{NotTaken}
use Rattle.journal_file.specs.declared.take_line.NotTaken.TheVariants as fault
use Rattle.journal_laws.specs.Starts.{ComesTo, EntersEvent, EntersRequest, IsLeft, IsNoEvent, IsNotTaken, IsRefused, IsStarved, MayFold, RefusesRequest, TakesLine, TakesRequest, generation_for}
use Rattle.journal_office.specs.Entered.{fault_of, is_of_line}
use Rattle.journal_text.specs.Reading.{request_of}
use Rattle.office.specs.Desks.{DeskState}
use Rattle.office.specs.Helds.{HeldState, entry_of, fits}
use Rattle.office.specs.Sendings.{Enters, RefusesOf}

-- ---- an event

pub event_entered : (event : Event) (old : HeldState) (d : DeskState) (new : HeldState) (after : DeskState) → Enters event old d new after → EntersEvent old.centre event new.centre
event_entered event old d new after is = record { entry = entry_of d.number event is.entered.answer; same = refl; legal = is.entered.is_verdict; centre = is.entered.entry }

of_line : (r : Refusal) (f : NotTaken) → f ≡ fault_of r → f ≡ fault.BadLine → is_of_line r ≡ true
of_line r f is bad = step (is_of_line r) refl
  where
    step : (t : Bool) → is_of_line r ≡ t → is_of_line r ≡ true
    step true so = so
    step false so = absurd (cc (sym bad ∙ is ∙ ap (λ (t : Bool). if t then fault.BadLine else fault.Memory) so))

refused_in : (centre : Known) (event : Event) (r : Refusal) → is_of_line r ≡ true → Refuses centre event r → verdict centre.settings (past centre) event ≡ Err r
refused_in centre event r of (inl stale) = absurd (cc (sym of ∙ ap is_of_line stale.0))
refused_in centre event r of (inr (whole, inl memory)) = absurd (cc (sym of ∙ ap is_of_line memory.0))
refused_in centre event r of (inr (whole, inr is)) = is

refused_with : (known : Bool) (centre : Known) (event : Event) (r : Refusal) (n : ℕ) → is_of_line r ≡ true → MatchBool known (Refuses centre event r) (r ≡ refusal.WrongDesk n) → verdict centre.settings (past centre) event ≡ Err r
refused_with true centre event r n of cause = refused_in centre event r of cause
refused_with false centre event r n of cause = absurd (cc (sym of ∙ ap is_of_line cause))

refused_by : (event : Event) (held : HeldState) (d : DeskState) (r : Refusal) → is_of_line r ≡ true → (r ≡ refusal.Memory) ⊎ RefusesOf event held d r → verdict held.centre.settings (past held.centre) event ≡ Err r
refused_by event held d r of (inl memory) = absurd (cc (sym of ∙ ap is_of_line memory))
refused_by event held d r of (inr cause) = refused_with (fits (length held.rows) (all_entries held.centre) d) held.centre event r (length (all_entries held.centre)) of cause

pub event_refused : (event : Event) (held : HeldState) (d : DeskState) (r : Refusal) (f : NotTaken) → f ≡ fault_of r → (r ≡ refusal.Memory) ⊎ RefusesOf event held d r → f ≡ fault.BadLine
    → (cause : Refusal) × (verdict held.centre.settings (past held.centre) event ≡ Err cause)
event_refused event held d r f is cause bad = (r, refused_by event held d r (of_line r f is bad) cause)

pub starved_by : (old new : Known) (r : Refusal) → Leaves old r new → IsStarved old new
starved_by old new r (inl same) = inl same
starved_by old new r (inr stale) = inr stale.1

-- ---- a request

pub comes_if : (past : Past) (request : Line) (generation : ℕ) (result : Result Event NotTaken) → generation ≡ generation_for past (link_of request) → IfOk result (λ e. IsLineEvent generation request (came.Event e))
    → IfOk result (λ e. ComesTo past request (came.Event e))
comes_if past request generation (Ok e) is comes = subst (λ g. IsLineEvent g request (came.Event e)) is comes
comes_if past request generation (Err f) is comes = comes

pub bad_event : (centre : Known) (request : Line) (generation : ℕ) (result : Result Event NotTaken) → generation ≡ generation_for (past centre) (link_of request)
    → IfErr result (λ f. f ≡ fault.BadLine → (x : LineEvent) × IsNoEvent x × IsLineEvent generation request x) → IfErr result (λ f. f ≡ fault.BadLine → IsRefused centre request)
bad_event centre request generation (Ok e) is why = why
bad_event centre request generation (Err f) is why = λ bad. let x = why bad in inl (x.0, x.1, subst (λ g. IsLineEvent g request x.0) is x.2)

pub bad_generation : (centre : Known) (request : Line) (f : NotTaken) → (f ≡ fault.BadLine → (b : ℕ) × (link_of request ≡ Some b) × (is_bsc (past centre) b ≡ false)) → f ≡ fault.BadLine → IsRefused centre request
bad_generation centre request f why bad = inr (inl (why bad))

pub request_entered : (old new : Known) (request : Line) (e : Event) → ComesTo (past old) request (came.Event e) → EntersEvent old e new → EntersRequest old request new
request_entered old new request e comes enters = (e, comes, enters)

pub bad_submit : (centre : Known) (request : Line) (e : Event) (f : NotTaken) → ComesTo (past centre) request (came.Event e)
    → (f ≡ fault.BadLine → (cause : Refusal) × (verdict centre.settings (past centre) e ≡ Err cause)) → f ≡ fault.BadLine → IsRefused centre request
bad_submit centre request e f comes why bad =
    let r = why bad in inr (inr (e, r.0, comes, r.1))

-- ---- behind a fold

pub no_bad : {A : Type 0} (f : NotTaken) → f ≡ fault.Memory → f ≡ fault.BadLine → A
no_bad f memory bad = absurd (cc (sym memory ∙ bad))

pub left_as_before : (old new : Known) → new ≡ old → IsLeft old new
left_as_before old new same = (old, inl refl, inl same)

pub left_behind : (old mid new : Known) → MayFold old mid → IsStarved mid new → IsLeft old new
left_behind old mid new folds starved = (mid, folds, starved)

-- ---- any request, and a line

pub request_folds : (old new : Known) (request : Line) → request ≡ line.Checkpoint → new ≡ checkpointed old → TakesRequest old request new
request_folds old new request is folded = inl (is, folded)

pub request_taken : (old new : Known) (request : Line) → (mid : Known) × MayFold old mid × EntersRequest mid request new → TakesRequest old request new
request_taken old new request h = inr h

pub request_refused : (old : Known) (request : Line) (f : NotTaken) → request ≢ line.Checkpoint → (f ≡ fault.BadLine → (mid : Known) × MayFold old mid × IsRefused mid request) → f ≡ fault.BadLine → RefusesRequest old request
request_refused old request f differs why bad = (differs, why bad)

pub line_taken : (old new : Known) (octets : List ℕ) (o : Option Line) (request : Line) → o ≡ request_of octets → o ≡ Some request → TakesRequest old request new → TakesLine old octets new
line_taken old new octets o request is some h = (request, sym is ∙ some, h)

pub line_refused : (old : Known) (octets : List ℕ) (o : Option Line) (request : Line) (f : NotTaken) → o ≡ request_of octets → o ≡ Some request → (f ≡ fault.BadLine → RefusesRequest old request) → f ≡ fault.BadLine
    → IsNotTaken old octets
line_refused old octets o request f is some why bad = inr (request, sym is ∙ some, why bad)

pub line_of_nothing : (old : Known) (octets : List ℕ) (o : Option Line) → o ≡ request_of octets → o ≡ None → IsNotTaken old octets
line_of_nothing old octets o is none = inl (sym is ∙ none)
