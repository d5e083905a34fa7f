-- What refuses an edit in the plan refuses it after every past that comes to the base of a past with nothing folded.
use Rattle.std.proofs.Common.{◌≡◌, ◌⊎◌, inl, inr, ◌+◌, false, ◌++◌, Err, arith, nat_le, refl, sym, ◌∙◌, ap}
use Rattle.std.specs.Prelude.{if◌then◌else◌}
use Rattle.std.proofs.lemmas.Bool.{lt-leb, or_parts}
use Rattle.common.specs.Checks.{first_refusal}
use Rattle.common.specs.Sorting.{sorted_by}
use Rattle.coverage_plan.specs.Checks.{edit_checks, translated}
use Rattle.coverage_plan.specs.Plan.{State}
use Rattle.coverage_plan.specs.declared.edit.Edit.{Edit}
use Rattle.coverage_plan.specs.declared.edit.Edit.TheVariants as edit
use Rattle.coverage_plan.specs.declared.refusal.Refusal as plan
use Rattle.centre_events.specs.Base.{Base}
use Rattle.centre_events.specs.Folding.{base_of, folded}
use Rattle.centre_events.specs.Past.{Past, From, entry_count, position}
use Rattle.centre_events.specs.Refusals.{of_plan}
use Rattle.centre_events.specs.Verdict.{answered, is_full, last_position, verdict}
use Rattle.centre_events.specs.declared.event.Event.TheVariants as event
use Rattle.centre_events.specs.declared.refusal.Refusal.TheVariants as refusal
use Rattle.centre_events.specs.declared.settings.Settings.{Settings}
use Rattle.centre_events.proofs.FoldingLemmas.{alike}
use Rattle.centre_past.specs.EditCauses.{edit_causes, own_causes}
use Rattle.centre_laws.specs.Causes.{stands_before, RefusesAsPlan, RefusesBefore}

causes_folded : (past : Past) (e : Edit) → edit_causes (folded past) e ≡ edit_causes past e
causes_folded past (edit.AddBsc b) = refl
causes_folded past (edit.RemoveBsc b) = refl
causes_folded past (edit.AddCell c b) = refl
causes_folded past (edit.MoveCell c b) = refl
causes_folded past (edit.RemoveCell c) = refl
causes_folded past (edit.AddArea a) = refl
causes_folded past (edit.DropArea a) = refl
causes_folded past (edit.Put a s) = refl
causes_folded past (edit.Cut a s) = refl
causes_folded past (edit.Issue notice areas) = refl
causes_folded past (edit.Update n content) = refl
causes_folded past (edit.Widen n a) = refl
causes_folded past (edit.Narrow n a) = refl
causes_folded past (edit.Stop n) = refl
causes_folded past (edit.Forget n) = refl

own_folded : (past : Past) (e : Edit) → own_causes (folded past) e ≡ own_causes past e
own_folded past (edit.RemoveBsc b) = refl
own_folded past (edit.Update n content) = refl
own_folded past (edit.Forget n) = refl
own_folded past other = refl

causes_alike : (p q : Past) → base_of p ≡ base_of q → (e : Edit) → edit_causes p e ≡ edit_causes q e
causes_alike p q same e = sym (causes_folded p e) ∙ ap (λ (x : Base). edit_causes (From x) e) same ∙ causes_folded q e

own_alike : (p q : Past) → base_of p ≡ base_of q → (e : Edit) → own_causes p e ≡ own_causes q e
own_alike p q same e = sym (own_folded p e) ∙ ap (λ (x : Base). own_causes (From x) e) same ∙ own_folded q e

-- the settings of a journal that has room for one entry more
abbrev roomy : Settings → Past → Settings
roomy settings p = record { network = settings.network; limit = entry_count p + 1 }

-- such a journal isn't full where the other isn't
room_there : (settings : Settings) (p q : Past) → base_of p ≡ base_of q → is_full settings q ≡ false → is_full (roomy settings p) p ≡ false
room_there settings p q same room = rw (few, left) refl
  where
    few : nat_le (entry_count p + 1) (entry_count p) ≡ false
    few = lt-leb (entry_count p + 1) (entry_count p) (omega arith)

    left : nat_le last_position (position p) ≡ false
    left = ap (λ (x : Base). nat_le last_position x.folded) same ∙ (or_parts (nat_le settings.limit (entry_count q)) (nat_le last_position (position q)) room).1

-- nor does what an edit is answered differ
verdict_there : (settings : Settings) (p q : Past) → base_of p ≡ base_of q → is_full settings q ≡ false → (e : Edit) → verdict settings q (event.Edit e) ≡ verdict (roomy settings p) p (event.Edit e)
verdict_there settings p q same room e =
    ap (λ t. if t then Err refusal.JournalFull else answered settings.network q (event.Edit e)) room
    ∙ sym (alike settings.network p q same (event.Edit e))
    ∙ sym (ap (λ t. if t then Err refusal.JournalFull else answered settings.network p (event.Edit e)) (room_there settings p q same room))

-- what the plan refuses an edit, or one of the centre's own causes that comes before
abbrev AsPlan : Settings → Past → Edit → plan.Refusal → Type 0
AsPlan settings past e r = (verdict settings past (event.Edit e) ≡ Err (of_plan r)) ⊎ RefusesBefore settings past e (of_plan r)

as_there : (settings : Settings) (p q : Past) → base_of p ≡ base_of q → is_full settings q ≡ false → (e : Edit) (r : plan.Refusal) → AsPlan (roomy settings p) p e r → AsPlan settings q e r
as_there settings p q same room e r (inl refused) = inl (verdict_there settings p q same room e ∙ refused)
as_there settings p q same room e r (inr first) = inr (record {
  own = first.own;
  holds = ap first_refusal (sym (own_alike p q same e)) ∙ first.holds;
  before = first.before;
  refused = verdict_there settings p q same room e ∙ first.refused;
})

pub refuses_carried : (p q : Past) (st : State) → base_of p ≡ base_of q → RefusesAsPlan p st → RefusesAsPlan q st
refuses_carried p q st same given = record {
  causes = λ e.
      sym (causes_alike p q same e) ∙ given.causes e ∙ ap (λ own. sorted_by stands_before (translated of_plan (edit_checks st e) ++ own)) (own_alike p q same e);
  refused = λ settings e r room first.
      as_there settings p q same room e r (given.refused (roomy settings p) e r (room_there settings p q same room) first);
}
