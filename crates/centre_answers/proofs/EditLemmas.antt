-- An edit is checked and made by the plan, and by what the plan can't see.
use Rattle.std.proofs.Common.{◌≡◌, ℕ, ◌+◌, Bool, true, false, [], ◌∷◌, Option, Some, None, Result, Ok, Err, refl, sym, ◌∙◌, ap, subst}
use Rattle.std.specs.Prelude.{IsOk}
use Rattle.common.specs.Checks.{first_refusal}
use Rattle.common.specs.Order.{is_ascending}
use Rattle.coverage_plan.specs.Checks.{edit_checks}
use Rattle.coverage_plan.specs.Edited.{issued_as, made_of, updated_as}
use Rattle.coverage_plan.specs.Plan.{State}
use Rattle.coverage_plan.specs.Sound.{IsSound}
use Rattle.coverage_plan.specs.declared.edit.Edit.{Edit}
use Rattle.coverage_plan.specs.declared.edit.Edit.TheVariants as edit
use Rattle.coverage_plan.specs.declared.made.Made.{Made}
use Rattle.coverage_plan.specs.declared.made.Made.TheVariants as made
use Rattle.warning_book.specs.Book as book
use Rattle.warning_book.specs.Book.{is_so, new_serial, next_serial, number_lt, warning_of}
use Rattle.warning_book.specs.Laws.{found_so}
use Rattle.warning_book.specs.declared.warning.Warning.{Warning}
use Rattle.centre_events.specs.Kept.{IsChecked, is_plain}
use Rattle.centre_events.specs.Past.{Past}
use Rattle.centre_events.specs.Reported.{is_reported, is_in_flight}
use Rattle.centre_events.specs.Verdict.{edit_answered, idle_checks, issue_answer, update_answer}
use Rattle.centre_events.specs.Warnings.{book_of, warnings_of}
use Rattle.centre_events.specs.declared.answer.Answer.{Answer}
use Rattle.centre_events.specs.declared.answer.Answer.TheVariants as answer
use Rattle.centre_events.specs.declared.refusal.Refusal.{Refusal}
use Rattle.centre_events.specs.declared.refusal.Refusal.TheVariants.{StillReported, StillInFlight}
use Rattle.centre_past.specs.EditCauses.{edit_causes, own_causes, is_update, IsPlanOf}
use Rattle.centre_past.proofs.CheckLemmas.{ok_is}
use Rattle.centre_past.proofs.EditCauseLemmas.{own_refuses, own_takes}
use Rattle.centre_answers.specs.Made.{answer_of}
use Rattle.centre_answers.specs.Reused.{IsFirst}
use Rattle.centre_answers.proofs.ReuseLemmas.{none_so}

-- What keeps a warning in the book.

-- it is what keeps the warning that is found
pub forget_found : (past : Past) (st : book.State) (n : ℕ) (w : Warning) → st ≡ book_of past → is_ascending number_lt st.warnings ≡ true → warning_of st n ≡ Some w → own_causes past (edit.Forget n) ≡ idle_checks past w
forget_found past st n w is ordered h =
    λ i. (so (is_reported past) i, StillReported) ∷ (so (is_in_flight past) i, StillInFlight) ∷ []
  where
    so : (f : Warning → Bool) → is_so n f (warnings_of past) ≡ f w
    so f = found_so n f (warnings_of past) w (subst (λ (b : book.State). is_ascending number_lt b.warnings ≡ true) is ordered) (subst (λ (b : book.State). warning_of b n ≡ Some w) is h)

-- nothing keeps one that isn't there
pub forget_missing : (past : Past) (st : book.State) (n : ℕ) → st ≡ book_of past → warning_of st n ≡ None → first_refusal (own_causes past (edit.Forget n)) ≡ None
forget_missing past st n is missing = λ i. first_refusal ((none (is_reported past) i, StillReported) ∷ (none (is_in_flight past) i, StillInFlight) ∷ [])
  where
    none : (f : Warning → Bool) → is_so n f (warnings_of past) ≡ false
    none f = none_so n f (warnings_of past) (subst (λ (b : book.State). warning_of b n ≡ None) is missing)

-- The verdict.

-- of an edit that the plan takes what the plan can't see decides
pub own_checked : {A : Type 0} (past : Past) (st : State) → IsSound st → IsPlanOf past st → (e : Edit) → is_update e ≡ false → (r : Result A Refusal) → first_refusal (edit_checks st e) ≡ None → IsFirst (own_causes past e) r → IsChecked (edit_answered past e) r
own_checked past st sound tied e other (Ok free) none first = own_takes past st sound tied e other none first
own_checked past st sound tied e other (Err refusal) none first = own_refuses past st sound tied e other none refusal first

-- What an edit is answered that was made.

issued_is : (n : ℕ) (o : Option ℕ) → IsOk (issue_answer n o) → issue_answer n o ≡ Ok (answer_of (issued_as n o))
issued_is n None ok = cc
issued_is n (Some s) ok = refl

updated_is : (o : Option ℕ) → update_answer o ≡ Ok (answer_of (updated_as o))
updated_is None = refl
updated_is (Some s) = refl

-- an edit that is accepted is answered what it gives
made_as : (past : Past) (st : State) (e : Edit) → st.book ≡ book_of past → IsOk (edit_answered past e) → edit_answered past e ≡ Ok (answer_of (made_of e st))
made_as past st (edit.Issue notice areas) booked ok = rw booked (step (ok_is (edit_causes past (edit.Issue notice areas)) given ok))
  where
    given : Result Answer Refusal
    given = issue_answer ((book_of past).issued + 1) (new_serial (book_of past) notice)

    step : edit_answered past (edit.Issue notice areas) ≡ given → edit_answered past (edit.Issue notice areas) ≡ Ok (answer_of (issued_as ((book_of past).issued + 1) (new_serial (book_of past) notice)))
    step is = is ∙ issued_is ((book_of past).issued + 1) (new_serial (book_of past) notice) (subst IsOk is ok)
made_as past st (edit.Update n content) booked ok = rw booked (ok_is (edit_causes past (edit.Update n content)) (update_answer (next_serial (book_of past) n)) ok ∙ updated_is (next_serial (book_of past) n))
made_as past st other booked ok = ok_is (edit_causes past other) (Ok answer.Done) ok

pub made_is : (past : Past) (st : State) (e : Edit) (m : Made) (a : Answer) → st.book ≡ book_of past → IsOk (edit_answered past e) → m ≡ made_of e st → a ≡ answer_of m → edit_answered past e ≡ Ok a
made_is past st e m a booked ok gives is = made_as past st e booked ok ∙ ap (λ (x : Made). Ok (answer_of x)) (sym gives) ∙ ap (λ (x : Answer). Ok x) (sym is)

-- no such answer takes memory
pub made_plain : (m : Made) (a : Answer) → a ≡ answer_of m → is_plain a ≡ true
made_plain m a is = ap is_plain is ∙ step m
  where
    step : (x : Made) → is_plain (answer_of x) ≡ true
    step made.Done = refl
    step (made.Issued n s) = refl
    step (made.Updated s) = refl
