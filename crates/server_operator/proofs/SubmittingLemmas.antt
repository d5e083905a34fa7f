-- From what an office promises of an event to what a line is answered that submits it.
use Rattle.std.proofs.Common.{◌≡◌, ◌-◌, ◌+◌, ℕ, List, [], ◌∷◌, ◌++◌, Some, length, get_or, inl, inr, sym, ap, ◌∙◌, arith, length-append}
use Rattle.std.specs.Prelude.{slice_get}
use Rattle.std.proofs.Math.Seq.{get_or-append_seam}
use Rattle.std.proofs.lemmas.Option.{get_or_from_slice_get}
use Rattle.centre_events.specs.declared.event.Event.{Event}
use Rattle.centre_events.specs.declared.event.Event.TheVariants as event
use Rattle.centre_events.specs.declared.refusal.Refusal.{Refusal}
use Rattle.centre_past.specs.Legal.{all_entries}
use Rattle.centre_questions.specs.declared.question.Question.TheVariants as question
use Rattle.console_text.specs.declared.response.Response.{Response}
use Rattle.console_text.specs.declared.response.Response.TheVariants as response
use Rattle.office.specs.Desks.{DeskState}
use Rattle.office.specs.Helds.{receipt_at}
use Rattle.office.specs.Offices.{IsRefusedSomewhere, IsSubmitted, IsUnseenSomewhere}
use Rattle.office.specs.declared.receipt.Receipt.{Receipt}
use Rattle.server_operator.specs.Submitting.{IsCutAnswer, IsSubmitAnswer, accepted_with}

-- the last element is the one that was put there
last_put : {X : Type 0} (xs all : List X) (x y : X) → all ≡ xs ++ x ∷ [] → slice_get all (length all - 1) ≡ Some y → y ≡ x
last_put xs all x y is at =
    let where_it_is : length all - 1 ≡ length xs = omega (arith, ap length is, length-append xs (x ∷ [])) in
    sym (get_or_from_slice_get all (length all - 1) y x at) ∙ ap (λ k. get_or all k x) where_it_is ∙ ap (λ l. get_or l (length xs) x) is ∙ get_or-append_seam xs x [] x

-- an event that was accepted is answered by the desk's latest receipt
pub accepted_by : (d d' : DeskState) (e : Event) (receipt : Receipt) (r : Response) → IsSubmitted d e d' → slice_get d'.receipts (length d'.receipts - 1) ≡ Some receipt
    → r ≡ accepted_with receipt → IsSubmitAnswer d e d' r
accepted_by d d' e receipt r s at is = inl (record {
  submitted = s;
  is = is ∙ ap accepted_with (last_put d.receipts d'.receipts (receipt_at (length (all_entries s.centre) + 1) e s.answer) receipt s.receipts at);
})

-- one that was refused
pub refused_by : (d d' : DeskState) (e : Event) (cause : Refusal) (r : Response) → IsRefusedSomewhere d e cause → d' ≡ record d { spare = d'.spare } → r ≡ response.Refused cause
    → IsSubmitAnswer d e d' r
refused_by d d' e cause r somewhere same is = inr (record { cause = cause; somewhere = somewhere; unchanged = same; is = is })

-- where the answer is a refusal the desk is as it was, but for its room
pub refused_same : (d d' : DeskState) (e : Event) (cause : Refusal) (r : Response) → IsSubmitAnswer d e d' r → r ≡ response.Refused cause → d' ≡ record d { spare = d'.spare }
refused_same d d' e cause r (inl p) is = absurd (let no = sym is ∙ p.is in cc)
refused_same d d' e cause r (inr p) is = p.unchanged

-- the same twice
pub same_again : (d d' d'' : DeskState) → d' ≡ record d { spare = d'.spare } → d'' ≡ record d' { spare = d''.spare } → d'' ≡ record d { spare = d''.spare }
same_again d d' d'' one two = two ∙ ap (λ (s : DeskState). record s { spare = d''.spare }) one

-- the loss of a link, after others that were refused
pub cut_by : (d d' d'' : DeskState) (b generation : ℕ) (r : Response) → d' ≡ record d { spare = d'.spare } → IsSubmitAnswer d' (event.LinkDown b generation) d'' r → IsCutAnswer d b d'' r
cut_by d d' d'' b generation r same answer = inl (record { generation = generation; desk = d'; same = same; answer = answer })

-- the generation isn't known
pub uncut_by : (d d' : DeskState) (b : ℕ) (cause : Refusal) (r : Response) → IsUnseenSomewhere d question.Bscs cause → d' ≡ d → r ≡ response.Refused cause → IsCutAnswer d b d' r
uncut_by d d' b cause r somewhere same is = inr (record { cause = cause; somewhere = somewhere; unchanged = same; is = is })
