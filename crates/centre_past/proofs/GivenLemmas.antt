-- What is answered where something is refused.
use Rattle.std.proofs.Common.{◌≡◌, Result, Ok, Err, sym, ◌∙◌, ap, subst}
use Rattle.std.specs.Prelude.{IsErrAnd}
use Rattle.centre_events.specs.Kept.{Gives, IsChecked}
use Rattle.centre_events.specs.declared.answer.Answer.{Answer}
use Rattle.centre_events.specs.declared.refusal.Refusal.{Refusal}

-- an error that is such a refusal is given where that refusal is
pub err_gives : (v r : Result Answer Refusal) (refusal : Refusal) → IsErrAnd r (λ x. x ≡ refusal) → Gives v (Err refusal) → Gives v r
err_gives v (Ok a) refusal h g = absurd h
err_gives v (Err x) refusal h g = subst (λ k. Gives v (Err k)) (sym h) g

-- the same of an edit that is looked at
pub err_checked : {A : Type 0} (v : Result Answer Refusal) (r : Result A Refusal) (refusal : Refusal) → IsErrAnd r (λ x. x ≡ refusal) → v ≡ Err refusal → IsChecked v r
err_checked v (Ok a) refusal h g = absurd h
err_checked v (Err x) refusal h g = g ∙ ap Err (sym h)
