-- What refuses an edit in the plan refuses it in the centre.
use Rattle.std.proofs.Common.{◌≡◌, ◌⊎◌, inl, inr, ℕ, Bool, true, false, not, List, [], ◌∷◌, ◌++◌, Some, Err, cond, refl, sym, ◌∙◌, ap, subst}
use Rattle.common.specs.Checks.{first_refusal}
use Rattle.common.specs.Sorting.{sorted_by}
use Rattle.coverage_plan.specs.Checks.{by_book, edit_checks, translated}
use Rattle.coverage_plan.specs.Plan.{State}
use Rattle.coverage_plan.specs.Sound.{IsSound}
use Rattle.coverage_plan.specs.declared.edit.Edit.{Edit}
use Rattle.coverage_plan.specs.declared.edit.Edit.TheVariants as edit
use Rattle.coverage_plan.specs.declared.refusal.Refusal as plan
use Rattle.coverage_plan.specs.declared.refusal.Refusal.TheVariants as plan_refusal
use Rattle.warning_book.specs.Book as book
use Rattle.warning_book.specs.Book.{is_active, is_of_other_kind, is_there, warning_is}
use Rattle.warning_book.specs.Checks as book_checks
use Rattle.warning_book.specs.Content.{have_pages, has_period}
use Rattle.warning_book.specs.declared.content.Content.{Content}
use Rattle.centre_events.specs.Past.{Past}
use Rattle.centre_events.specs.Refusals.{of_plan}
use Rattle.centre_events.specs.Reported.{is_key_reported, is_key_in_flight}
use Rattle.centre_events.specs.Verdict.{answered, is_full, reuses, verdict}
use Rattle.centre_events.specs.Warnings.{book_of}
use Rattle.centre_events.specs.declared.event.Event.TheVariants as event
use Rattle.centre_events.specs.declared.refusal.Refusal.{Refusal}
use Rattle.centre_events.specs.declared.refusal.Refusal.TheVariants as refusal
use Rattle.centre_events.specs.declared.settings.Settings.{Settings}
use Rattle.centre_past.specs.EditCauses.{edit_causes, own_causes, IsPlanOf}
use Rattle.centre_past.proofs.EditCauseLemmas.{edit_decides, first_stays, plan_first}
use Rattle.centre_laws.specs.Causes.{comes_before, stands_before, RefusesAsPlan, RefusesBefore}

causes : (past : Past) (st : State) → IsSound st → IsPlanOf past st → (e : Edit) → edit_causes past e ≡ sorted_by stands_before (translated of_plan (edit_checks st e) ++ own_causes past e)
causes past st sound tied (edit.Update n content) = rw tied.booked refl
causes past st sound tied other = plan_first past st sound tied other refl

-- the verdict where the journal has room, by the first of the causes
by_first : (settings : Settings) (past : Past) (e : Edit) (q : Refusal) → is_full settings past ≡ false → first_refusal (edit_causes past e) ≡ Some q → verdict settings past (event.Edit e) ≡ Err q
by_first settings past e q room first =
    ap (λ t. cond t (Err refusal.JournalFull) (answered settings.network past (event.Edit e))) room ∙ (edit_decides past e).refused q first

-- what the plan refuses an edit, or one of the centre's own causes that comes before
abbrev AsPlan : Settings → Past → Edit → plan.Refusal → Type 0
AsPlan settings past e r = (verdict settings past (event.Edit e) ≡ Err (of_plan r)) ⊎ RefusesBefore settings past e (of_plan r)

-- it is the plan's where the centre's own causes come last
own_last : (settings : Settings) (past : Past) (st : State) (e : Edit) (r : plan.Refusal) → is_full settings past ≡ false → first_refusal (edit_checks st e) ≡ Some r → edit_causes past e ≡ translated of_plan (edit_checks st e) ++ own_causes past e → AsPlan settings past e r
own_last settings past st e r room first same =
    inl (by_first settings past e (of_plan r) room (ap first_refusal same ∙ first_stays of_plan (edit_checks st e) (own_causes past e) r first))

-- the plan's checks of an Update that come after the centre's own
abbrev content_causes : Bool → Bool → Bool → List (Bool × plan.Refusal)
content_causes c d w = (c, plan_refusal.BadPages) ∷ (d, plan_refusal.BadPeriod) ∷ (w, plan_refusal.WrongKind) ∷ []

record After (c d w : Bool) (r : plan.Refusal) : Type 0 where
  reported : comes_before refusal.StillReported (of_plan r) ≡ true
  flying : comes_before refusal.StillInFlight (of_plan r) ≡ true
  first : first_refusal (translated of_plan (content_causes c d w)) ≡ Some (of_plan r)

content_after : (c d w : Bool) (r : plan.Refusal) → first_refusal (content_causes c d w) ≡ Some r → After c d w r
content_after true d w r h = let same : plan_refusal.BadPages ≡ r = cc in subst (After true d w) same (record { reported = refl; flying = refl; first = refl })
content_after false true w r h = let same : plan_refusal.BadPeriod ≡ r = cc in subst (After false true w) same (record { reported = refl; flying = refl; first = refl })
content_after false false true r h = let same : plan_refusal.WrongKind ≡ r = cc in subst (After false false true) same (record { reported = refl; flying = refl; first = refl })
content_after false false false r h = cc

-- the plan's causes of an Update, the centre's own, and all of them in order
abbrev plan_causes : Bool → Bool → Bool → Bool → Bool → List (Bool × plan.Refusal)
plan_causes a b c d w = (a, plan_refusal.NoSuchWarning) ∷ (b, plan_refusal.NotActive) ∷ content_causes c d w

abbrev reuse_causes : Bool → Bool → List (Bool × Refusal)
reuse_causes x y = (x, refusal.StillReported) ∷ (y, refusal.StillInFlight) ∷ []

abbrev all_causes : Bool → Bool → Bool → Bool → Bool → Bool → Bool → List (Bool × Refusal)
all_causes a b x y c d w = (a, refusal.NoSuchWarning) ∷ (b, refusal.NotActive) ∷ (reuse_causes x y ++ translated of_plan (content_causes c d w))

-- the first of all is the first of the plan's, or an own one that comes before it
abbrev FirstOf : (a b x y c d w : Bool) → plan.Refusal → Type 0
FirstOf a b x y c d w r = (first_refusal (all_causes a b x y c d w) ≡ Some (of_plan r)) ⊎ ((q : Refusal) × ((first_refusal (reuse_causes x y) ≡ Some q) × ((comes_before q (of_plan r) ≡ true) × (first_refusal (all_causes a b x y c d w) ≡ Some q))))

first_of : (a b x y c d w : Bool) (r : plan.Refusal) → first_refusal (plan_causes a b c d w) ≡ Some r → FirstOf a b x y c d w r
first_of true b x y c d w r h = let same : plan_refusal.NoSuchWarning ≡ r = cc in inl (ap (λ k. Some (of_plan k)) same)
first_of false true x y c d w r h = let same : plan_refusal.NotActive ≡ r = cc in inl (ap (λ k. Some (of_plan k)) same)
first_of false false true y c d w r h = inr (refusal.StillReported, (refl, ((content_after c d w r h).reported, refl)))
first_of false false false true c d w r h = inr (refusal.StillInFlight, (refl, ((content_after c d w r h).flying, refl)))
first_of false false false false c d w r h = inl (content_after c d w r h).first

update_as : (settings : Settings) (past : Past) (st : State) (n : ℕ) (content : Content) (r : plan.Refusal) → st.book ≡ book_of past → is_full settings past ≡ false → first_refusal (edit_checks st (edit.Update n content)) ≡ Some r → AsPlan settings past (edit.Update n content) r
update_as settings past st n content r booked room first =
    step
    (first_of (not (is_there (book_of past) n)) (not (is_active (book_of past) n)) (reuses past n (is_key_reported past)) (reuses past n (is_key_in_flight past)) (not (have_pages content)) (not (has_period content)) (warning_is (book_of past) n (is_of_other_kind content)) r
    (ap (λ (b : book.State). first_refusal (by_book (book_checks.update_checks b n content))) (sym booked) ∙ first))
  where
    step : FirstOf (not (is_there (book_of past) n)) (not (is_active (book_of past) n)) (reuses past n (is_key_reported past)) (reuses past n (is_key_in_flight past)) (not (have_pages content)) (not (has_period content)) (warning_is (book_of past) n (is_of_other_kind content)) r → AsPlan settings past (edit.Update n content) r
    step (inl h) = inl (by_first settings past (edit.Update n content) (of_plan r) room h)
    step (inr (q, (holds, (before, h)))) = inr (record { own = q; holds = holds; before = before; refused = by_first settings past (edit.Update n content) q room h })

edit_as : (settings : Settings) (past : Past) (st : State) → IsSound st → IsPlanOf past st → (e : Edit) (r : plan.Refusal) → is_full settings past ≡ false → first_refusal (edit_checks st e) ≡ Some r → AsPlan settings past e r
edit_as settings past st sound tied (edit.Update n content) r room first = update_as settings past st n content r tied.booked room first
edit_as settings past st sound tied other r room first = own_last settings past st other r room first (plan_first past st sound tied other refl)

pub refuses_as_plan : (past : Past) (st : State) → IsSound st → IsPlanOf past st → RefusesAsPlan past st
refuses_as_plan past st sound tied = record {
  causes = causes past st sound tied;
  refused = λ settings e x room first. edit_as settings past st sound tied e x room first;
}
