-- The first cause of an edit that holds refuses it; those of the plan come first, but for an Update.
use Rattle.std.proofs.Common.{◌≡◌, inl, inr, ℕ, ◌+◌, Bool, true, false, not, List, [], ◌∷◌, ◌++◌, Option, Some, None, Result, Ok, Err, cond, refl, sym, ◌∙◌, ap}
use Rattle.std.specs.Prelude.{IsOk}
use Rattle.std.specs.List.{list_any}
use Rattle.common.specs.Checks.{first_refusal}
use Rattle.coverage_plan.specs.Checks.{IsRefusal, edit_checks, translated}
use Rattle.coverage_plan.specs.Plan.{State}
use Rattle.coverage_plan.specs.Refusals as plan_refusals
use Rattle.coverage_plan.specs.Sound.{IsSound}
use Rattle.coverage_plan.specs.declared.edit.Edit.{Edit}
use Rattle.coverage_plan.specs.declared.edit.Edit.TheVariants as edit
use Rattle.coverage_plan.specs.declared.refusal.Refusal as plan
use Rattle.warning_book.specs.Book.{new_serial, next_serial}
use Rattle.warning_book.specs.Checks as book
use Rattle.warning_book.specs.declared.notice.Notice.{Notice}
use Rattle.warning_book.specs.declared.refusal.Refusal as book_refusal
use Rattle.centre_events.specs.Cover.{is_area}
use Rattle.centre_events.specs.Kept.{Gives}
use Rattle.centre_events.specs.Past.{Past}
use Rattle.centre_events.specs.Refusals.{of_book, of_plan}
use Rattle.centre_events.specs.Verdict.{unless, edit_answered, issue_answer, update_answer, by_book, add_bsc_checks, remove_bsc_checks, add_cell_checks, move_cell_checks, remove_cell_checks, add_area_checks, drop_area_checks, put_checks, cut_checks, issue_checks, update_checks, widen_checks, narrow_checks, stop_checks, forget_checks}
use Rattle.centre_events.specs.Warnings.{book_of}
use Rattle.centre_events.specs.declared.answer.Answer.{Answer}
use Rattle.centre_events.specs.declared.answer.Answer.TheVariants as answer
use Rattle.centre_events.specs.declared.refusal.Refusal.{Refusal}
use Rattle.centre_events.specs.declared.refusal.Refusal.TheVariants as refusal
use Rattle.centre_past.specs.EditCauses.{edit_causes, own_causes, is_update, IsPlanOf}
use Rattle.centre_past.proofs.AreaLemmas.{areas_counted, selectors_counted, names_there}
use Rattle.centre_past.proofs.RegisterLemmas.{bscs_counted, cells_counted, cells_there}
use Rattle.centre_past.proofs.WarningLemmas.{issue_ok, update_ok}

-- The first cause that holds refuses an edit.

-- what the causes say of the verdict
pub record Decides (causes : List (Bool × Refusal)) (v : Result Answer Refusal) : Type 0 where
  pub refused : (r : Refusal) → first_refusal causes ≡ Some r → v ≡ Err r
  pub accepted : first_refusal causes ≡ None → IsOk v

-- one more cause before the others
pub decides_before : (t : Bool) (r : Refusal) (causes : List (Bool × Refusal)) (v : Result Answer Refusal) → Decides causes v → Decides ((t, r) ∷ causes) (cond t (Err r) v)
decides_before true r causes v rest = record { refused = λ q head. let same : r ≡ q = cc in ap (λ x. Err x) same; accepted = λ none. cc }
decides_before false r causes v rest = record { refused = rest.refused; accepted = rest.accepted }

-- the checks alone
pub decides : (checks : List (Bool × Refusal)) (v : Result Answer Refusal) → (first_refusal checks ≡ None → IsOk v) → Decides checks (unless checks v)
decides [] v ok = record { refused = λ q head. cc; accepted = λ none. ok refl }
decides ((true, r) ∷ checks) v ok = record { refused = λ q head. let same : r ≡ q = cc in ap (λ x. Err x) same; accepted = λ none. cc }
decides ((false, r) ∷ checks) v ok =
    let more : Decides checks (unless checks v) = decides checks v ok in
    record { refused = more.refused; accepted = more.accepted }

pub done : (checks : List (Bool × Refusal)) → Decides checks (unless checks (Ok answer.Done))
done checks = decides checks (Ok answer.Done) (λ none. refl)

-- where none of a lower crate's checks holds in other words, none holds
pub untranslated : {E F : Type 0} (f : E → F) (checks : List (Bool × E)) → first_refusal (translated f checks) ≡ None → first_refusal checks ≡ None
untranslated f [] none = refl
untranslated f ((true, e) ∷ checks) none = cc
untranslated f ((false, e) ∷ checks) none = untranslated f checks none

issue_decides : (past : Past) (notice : Notice) (areas : List (List ℕ)) → Decides (issue_checks past notice areas) (unless (issue_checks past notice areas) (issue_answer ((book_of past).issued + 1) (new_serial (book_of past) notice)))
issue_decides past notice areas = decides_before missing refusal.NoSuchArea (by_book checks) (unless (by_book checks) given) (decides (by_book checks) given (λ none. issue_ok past notice areas (untranslated of_book checks none)))
  where
    missing : Bool
    missing = list_any (λ a. not (is_area past a)) areas

    checks : List (Bool × book_refusal.Refusal)
    checks = book.issue_checks (book_of past) notice areas

    given : Result Answer Refusal
    given = issue_answer ((book_of past).issued + 1) (new_serial (book_of past) notice)

pub edit_decides : (past : Past) (e : Edit) → Decides (edit_causes past e) (edit_answered past e)
edit_decides past (edit.AddBsc b) = done (add_bsc_checks past b)
edit_decides past (edit.RemoveBsc b) = done (remove_bsc_checks past b)
edit_decides past (edit.AddCell c b) = done (add_cell_checks past c b)
edit_decides past (edit.MoveCell c b) = done (move_cell_checks past c b)
edit_decides past (edit.RemoveCell c) = done (remove_cell_checks past c)
edit_decides past (edit.AddArea a) = done (add_area_checks past a)
edit_decides past (edit.DropArea a) = done (drop_area_checks past a)
edit_decides past (edit.Put a s) = done (put_checks past a s)
edit_decides past (edit.Cut a s) = done (cut_checks past a s)
edit_decides past (edit.Issue notice areas) = issue_decides past notice areas
edit_decides past (edit.Update n content) = decides (update_checks past n content) (update_answer (next_serial (book_of past) n)) (λ none. update_ok past n)
edit_decides past (edit.Widen n a) = done (widen_checks past n a)
edit_decides past (edit.Narrow n a) = done (narrow_checks past n a)
edit_decides past (edit.Stop n) = done (stop_checks past n)
edit_decides past (edit.Forget n) = done (forget_checks past n)

-- no cause holds of an edit that is accepted
pub not_ok : (v : Result Answer Refusal) (r : Refusal) → v ≡ Err r → IsOk v → ⊥
not_ok (Ok a) r is ok = cc
not_ok (Err e) r is ok = cc

pub none_of : (causes : List (Bool × Refusal)) (v : Result Answer Refusal) → Decides causes v → IsOk v → first_refusal causes ≡ None
none_of causes v given ok = step (first_refusal causes) refl
  where
    step : (o : Option Refusal) → first_refusal causes ≡ o → o ≡ None
    step None none = refl
    step (Some q) head = absurd (not_ok v q (given.refused q head) ok)

-- The causes of the plan.

-- of every edit but an Update they come first, and the centre's own follow
pub plan_first : (past : Past) (st : State) → IsSound st → IsPlanOf past st → (e : Edit) → is_update e ≡ false → edit_causes past e ≡ translated of_plan (edit_checks st e) ++ own_causes past e
plan_first past st sound tied (edit.AddBsc b) other = rw (tied.registered.bscs b, bscs_counted past st.register sound.registered tied.registered) refl
plan_first past st sound tied (edit.RemoveBsc b) other = rw (tied.registered.bscs b, cells_there past st.register b sound.registered tied.registered) refl
plan_first past st sound tied (edit.AddCell c b) other = rw (tied.registered.bscs b, tied.registered.places c, cells_counted past st.register sound.registered tied.registered) refl
plan_first past st sound tied (edit.MoveCell c b) other = rw (tied.registered.bscs b, tied.registered.places c) refl
plan_first past st sound tied (edit.RemoveCell c) other = rw (tied.registered.places c) refl
plan_first past st sound tied (edit.AddArea a) other = rw (tied.selected.names a, areas_counted past st.areas sound.areas_ascend tied.selected) refl
plan_first past st sound tied (edit.DropArea a) other = rw (tied.selected.names a, tied.booked) refl
plan_first past st sound tied (edit.Put a s) other = rw (tied.selected.names a, tied.selected.selectors a s, selectors_counted past st.areas a sound.selectors_once tied.selected) refl
plan_first past st sound tied (edit.Cut a s) other = rw (tied.selected.names a, tied.selected.selectors a s) refl
plan_first past st sound tied (edit.Issue notice names) other = rw (names_there past st.areas names tied.selected, tied.booked) refl
plan_first past st sound tied (edit.Update n content) other = cc
plan_first past st sound tied (edit.Widen n a) other = rw (tied.selected.names a, tied.booked) refl
plan_first past st sound tied (edit.Narrow n a) other = rw (tied.selected.names a, tied.booked) refl
plan_first past st sound tied (edit.Stop n) other = rw tied.booked refl
plan_first past st sound tied (edit.Forget n) other = rw tied.booked refl

-- the first of the plan's causes stays the first where others follow
pub first_stays : {E : Type 0} (f : E → Refusal) (checks : List (Bool × E)) (rest : List (Bool × Refusal)) (r : E) → first_refusal checks ≡ Some r → first_refusal (translated f checks ++ rest) ≡ Some (f r)
first_stays f [] rest r head = cc
first_stays f ((true, e) ∷ checks) rest r head = let same : e ≡ r = cc in ap (λ x. Some (f x)) same
first_stays f ((false, e) ∷ checks) rest r head = first_stays f checks rest r head

-- where none of them holds those that follow decide
after_none : {E : Type 0} (f : E → Refusal) (checks : List (Bool × E)) (rest : List (Bool × Refusal)) → first_refusal checks ≡ None → first_refusal (translated f checks ++ rest) ≡ first_refusal rest
after_none f [] rest none = refl
after_none f ((true, e) ∷ checks) rest none = cc
after_none f ((false, e) ∷ checks) rest none = after_none f checks rest none

-- none of them holds where none of all does
none_first : {E : Type 0} (f : E → Refusal) (checks : List (Bool × E)) (rest : List (Bool × Refusal)) → first_refusal (translated f checks ++ rest) ≡ None → first_refusal checks ≡ None
none_first f [] rest none = refl
none_first f ((true, e) ∷ checks) rest none = cc
none_first f ((false, e) ∷ checks) rest none = none_first f checks rest none

-- nor, in other words, where others stand between them
none_apart : {E F : Type 0} (f : E → Refusal) (g : E → F) (first : List (Bool × E)) (own : List (Bool × Refusal)) (rest : List (Bool × E)) → first_refusal (translated f first ++ (own ++ translated f rest)) ≡ None → first_refusal (translated g (first ++ rest)) ≡ None
none_apart f g [] [] [] none = refl
none_apart f g [] [] ((true, e) ∷ rest) none = cc
none_apart f g [] [] ((false, e) ∷ rest) none = none_apart f g [] [] rest none
none_apart f g [] ((true, e) ∷ own) rest none = cc
none_apart f g [] ((false, e) ∷ own) rest none = none_apart f g [] own rest none
none_apart f g ((true, e) ∷ first) own rest none = cc
none_apart f g ((false, e) ∷ first) own rest none = none_apart f g first own rest none

-- the plan refuses no edit that no cause refuses
pub plan_takes : (past : Past) (st : State) → IsSound st → IsPlanOf past st → (e : Edit) → first_refusal (edit_causes past e) ≡ None → first_refusal (edit_checks st e) ≡ None
plan_takes past st sound tied (edit.Update n content) none = rw tied.booked (none_apart of_book plan_refusals.of_book (book.there_checks (book_of past) n) (own_causes past (edit.Update n content)) (book.content_checks (book_of past) n content) none)
plan_takes past st sound tied other none = none_first of_plan (edit_checks st other) (own_causes past other) (ap first_refusal (sym (plan_first past st sound tied other refl)) ∙ none)

-- what the plan refuses is refused so
pub plan_refuses : (past : Past) (st : State) → IsSound st → IsPlanOf past st → (e : Edit) → is_update e ≡ false → (r : plan.Refusal) → first_refusal (edit_checks st e) ≡ Some r → edit_answered past e ≡ Err (of_plan r)
plan_refuses past st sound tied e other r first =
    (edit_decides past e).refused (of_plan r) (ap first_refusal (plan_first past st sound tied e other) ∙ first_stays of_plan (edit_checks st e) (own_causes past e) r first)

-- what it takes the centre's own causes refuse, or else it is accepted
own_next : (past : Past) (st : State) → IsSound st → IsPlanOf past st → (e : Edit) → is_update e ≡ false → first_refusal (edit_checks st e) ≡ None → first_refusal (edit_causes past e) ≡ first_refusal (own_causes past e)
own_next past st sound tied e other none = ap first_refusal (plan_first past st sound tied e other) ∙ after_none of_plan (edit_checks st e) (own_causes past e) none

pub own_refuses : (past : Past) (st : State) → IsSound st → IsPlanOf past st → (e : Edit) → is_update e ≡ false → first_refusal (edit_checks st e) ≡ None → (r : Refusal) → first_refusal (own_causes past e) ≡ Some r → edit_answered past e ≡ Err r
own_refuses past st sound tied e other none r first = (edit_decides past e).refused r (own_next past st sound tied e other none ∙ first)

pub own_takes : (past : Past) (st : State) → IsSound st → IsPlanOf past st → (e : Edit) → is_update e ≡ false → first_refusal (edit_checks st e) ≡ None → first_refusal (own_causes past e) ≡ None → IsOk (edit_answered past e)
own_takes past st sound tied e other none free = (edit_decides past e).accepted (own_next past st sound tied e other none ∙ free)

-- an edit that is accepted the plan refuses for want of memory alone
pub plan_starves : (past : Past) (st : State) → IsSound st → IsPlanOf past st → (e : Edit) (r : plan.Refusal) → IsOk (edit_answered past e) → IsRefusal (edit_checks st e) r → Gives (edit_answered past e) (Err (of_plan r))
plan_starves past st sound tied e r ok (inl first) = absurd (let no : None ≡ Some r = sym (plan_takes past st sound tied e (none_of (edit_causes past e) (edit_answered past e) (edit_decides past e) ok)) ∙ first in cc)
plan_starves past st sound tied e r ok (inr h) = inl (ap of_plan h.0, ok)
