-- What a Send is answered once its link is up and nothing is in flight.
use Rattle.std.proofs.Common.{◌≡◌, ℕ, Bool, true, false, List, [], ◌∷◌, ◌++◌, Option, Some, None, Result, Err, refl, sym, ◌∙◌, ap, subst}
use Rattle.std.specs.Prelude.{IsOk}
use Rattle.std.specs.Option.{is_some}
use Rattle.common.specs.Checks.{first_refusal}
use Rattle.order_maker.specs.Grouping.{first}
use Rattle.order_maker.specs.declared.order.Order.{Order}
use Rattle.centre_events.specs.InFlight.{in_flight}
use Rattle.centre_events.specs.Kept.{Gives}
use Rattle.centre_events.specs.Past.{Past}
use Rattle.centre_events.specs.Pending.{pending}
use Rattle.centre_events.specs.Verdict.{link_checks, send, send_answer, send_checks}
use Rattle.centre_events.specs.declared.answer.Answer.{Answer}
use Rattle.centre_events.specs.declared.refusal.Refusal.{Refusal}
use Rattle.centre_events.specs.declared.refusal.Refusal.TheVariants.{InFlight, NothingPending}
use Rattle.centre_past.proofs.CheckLemmas.{none_left}

-- with one more check that does not hold
none_more : (checks : List (Bool × Refusal)) (t : Bool) (e : Refusal) → first_refusal checks ≡ None → t ≡ false → first_refusal (checks ++ (t, e) ∷ []) ≡ None
none_more [] true e h g = cc
none_more [] false e h g = refl
none_more ((true, x) ∷ checks) t e h g = cc
none_more ((false, x) ∷ checks) t e h g = none_more checks t e h g

-- what is pending decides a Send over its link while nothing is in flight
send_is : (requested : ℕ) (past : Past) (b generation : ℕ) → first_refusal (link_checks past b generation) ≡ None → is_some (in_flight past b) ≡ false → send requested past b generation ≡ send_answer requested past (first (pending past b))
send_is requested past b generation h g =
    none_left (send_checks past b generation) (send_answer requested past (first (pending past b))) (none_more (link_checks past b generation) (is_some (in_flight past b)) InFlight h g)

-- nothing is pending
pub send_nothing : (requested : ℕ) (past : Past) (b generation : ℕ) → first_refusal (link_checks past b generation) ≡ None → is_some (in_flight past b) ≡ false → is_some (first (pending past b)) ≡ false → send requested past b generation ≡ Err NothingPending
send_nothing requested past b generation h g none = send_is requested past b generation h g ∙ step (first (pending past b)) none
  where
    step : (o : Option Order) → is_some o ≡ false → send_answer requested past o ≡ Err NothingPending
    step None e = refl
    step (Some order) e = cc

-- something is, so the Send is not refused
pub send_something : (requested : ℕ) (past : Past) (b generation : ℕ) → first_refusal (link_checks past b generation) ≡ None → is_some (in_flight past b) ≡ false → is_some (first (pending past b)) ≡ true → IsOk (send requested past b generation)
send_something requested past b generation h g some = subst IsOk (sym (send_is requested past b generation h g)) (step (first (pending past b)) some)
  where
    step : (o : Option Order) → is_some o ≡ true → IsOk (send_answer requested past o)
    step None e = cc
    step (Some order) e = refl

-- what is answered for the first order that is pending
pub send_given : (requested : ℕ) (past : Past) (b generation : ℕ) (o : Option Order) (r : Result Answer Refusal) → first_refusal (link_checks past b generation) ≡ None → is_some (in_flight past b) ≡ false → o ≡ first (pending past b) → Gives (send_answer requested past o) r → Gives (send requested past b generation) r
send_given requested past b generation o r h g is given =
    subst (λ v. Gives v r) (sym (send_is requested past b generation h g ∙ ap (send_answer requested past) (sym is))) given
