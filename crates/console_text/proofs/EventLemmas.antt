-- From the edit of a line to its event.
use Rattle.std.proofs.Common.{◌≡◌, ◌∙◌, ℕ, true, false, if◌then◌else◌, Option, Some, None, Result, Ok, Err, IfOk, refl, sym, ap, subst}
use Rattle.std.specs.Option.{option_map}
use Rattle.centre_events.specs.declared.event.Event.{Event}
use Rattle.centre_events.specs.declared.event.Event.TheVariants as event
use Rattle.console_text.specs.Events.{IsLineEvent, edit_or, event_or, event_with, has_digits, line_edit}
use Rattle.console_text.specs.Headings.{alert_of, content_of, emergency_content_of, notice_of}
use Rattle.console_text.specs.HexText.{pages_of, security_of}
use Rattle.console_text.specs.declared.line.Line.{Line}
use Rattle.console_text.specs.declared.line.Line.TheVariants as line
use Rattle.console_text.specs.declared.line_edit.LineEdit.{LineEdit}
use Rattle.console_text.specs.declared.line_edit.LineEdit.TheVariants as made
use Rattle.console_text.specs.declared.line_event.LineEvent.{LineEvent}
use Rattle.console_text.specs.declared.line_event.LineEvent.TheVariants as came
use Rattle.console_text.specs.declared.text_fault.TextFault.TheVariants as fault
use Rattle.coverage_plan.specs.declared.edit.Edit.{Edit as EditOf}
use Rattle.coverage_plan.specs.declared.edit.Edit.TheVariants as edit

-- the edit as an event
abbrev as_event : LineEdit → LineEvent
as_event (made.Edit change) = came.Event (event.Edit change)
as_event made.BadHex = came.Bad fault.Hex
as_event (made.Other l) = came.Other l

spelled : {A : Type 0} (l : Line) (f : A → EditOf) (octets : Option A) → has_digits l ≡ true
    → as_event (edit_or l (option_map (λ x. event.Edit (f x)) octets)) ≡ event_or l (option_map (λ x. event.Edit (f x)) octets)
spelled l f None has = rw has refl
spelled l f (Some x) has = refl

-- the line comes to an edit, or to bad digits
made_so : (generation : ℕ) (l : Line) (x : LineEdit) (e : LineEvent) → line_edit l ≡ x → ((other : Line) → x ≡ made.Other other → ⊥) → e ≡ as_event x → IsLineEvent generation l e
made_so generation (line.Retry b) x e is edits same = absurd (edits (line.Retry b) (sym is))
made_so generation (line.Up b) x e is edits same = absurd (edits (line.Up b) (sym is))
made_so generation (line.Down b) x e is edits same = absurd (edits (line.Down b) (sym is))
made_so generation (line.Send b) x e is edits same = absurd (edits (line.Send b) (sym is))
made_so generation (line.Ask b warning after) x e is edits same = absurd (edits (line.Ask b warning after) (sym is))
made_so generation (line.Report b text) x e is edits same = absurd (edits (line.Report b text) (sym is))
made_so generation (line.Issue heading text areas) x e is edits same =
    same ∙ sym (ap as_event is) ∙ spelled (line.Issue heading text areas) (λ pages. edit.Issue (notice_of heading pages) areas) (pages_of text) refl
made_so generation (line.Update warning heading text) x e is edits same =
    same ∙ sym (ap as_event is) ∙ spelled (line.Update warning heading text) (λ pages. edit.Update warning (content_of heading pages)) (pages_of text) refl
made_so generation (line.Alert heading text areas) x e is edits same =
    same ∙ sym (ap as_event is) ∙ spelled (line.Alert heading text areas) (λ security. edit.Issue (alert_of heading security) areas) (security_of text) refl
made_so generation (line.Realert warning heading text) x e is edits same =
    same ∙ sym (ap as_event is) ∙ spelled (line.Realert warning heading text) (λ security. edit.Update warning (emergency_content_of heading security)) (security_of text) refl
made_so generation l x e is edits same = same ∙ sym (ap as_event is)

-- an edit
pub edited : (generation : ℕ) (l : Line) (x : LineEdit) (change : EditOf) (e : LineEvent) → x ≡ line_edit l → x ≡ made.Edit change → e ≡ came.Event (event.Edit change) → IsLineEvent generation l e
edited generation l x change e is is_made same =
    made_so generation l x e (sym is) (λ other no. cc (sym is_made ∙ no)) (same ∙ sym (ap as_event is_made))

-- digits that don't give one
pub bad_edit : (generation : ℕ) (l : Line) (x : LineEdit) (e : LineEvent) → x ≡ line_edit l → x ≡ made.BadHex → e ≡ came.Bad fault.Hex → IsLineEvent generation l e
bad_edit generation l x e is bad same = made_so generation l x e (sym is) (λ other no. cc (sym bad ∙ no)) (same ∙ sym (ap as_event bad))

abbrev other_or : Line → LineEdit → Line
other_or l (made.Other other) = other
other_or l _ = l

kept_line : (l : Line) (o : Option Event) → other_or l (edit_or l o) ≡ l
kept_line l None = elim (has_digits l) as (λ b. other_or l (if b then made.BadHex else made.Other l) ≡ l) [ true ↦ refl | false ↦ refl ]
kept_line l (Some (event.Edit change)) = refl
kept_line l (Some _) = refl

-- a line that asks for no edit comes to itself
same_line : (l other : Line) → line_edit l ≡ made.Other other → l ≡ other
same_line l other is = sym (kept_line l (event_with (λ b. 0) l)) ∙ ap (other_or l) is

-- no edit
pub no_edit : {E : Type 0} (generation : ℕ) (l other : Line) (x : LineEdit) (r : Result LineEvent E) → x ≡ line_edit l → x ≡ made.Other other
    → (line_edit other ≡ made.Other other → IfOk r (IsLineEvent generation other)) → IfOk r (IsLineEvent generation l)
no_edit generation l other x r is is_other h =
    let same : l ≡ other = same_line l other (sym is ∙ is_other) in
    subst (λ k. IfOk r (IsLineEvent generation k)) (sym same) (h (ap (λ k. line_edit k) (sym same) ∙ sym is ∙ is_other))
