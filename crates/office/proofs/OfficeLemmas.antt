-- From what holds under the lock to what a call of an office promises.
use Rattle.std.proofs.Common.{◌≡◌, ℕ, Bool, true, false, Result, Ok, Err, OnOk, OnErr, IfOk, IfErr, inl, inr, length, refl, sym, ap, ◌∙◌, subst}
use Rattle.centre_core.specs.Centre.{Refuses}
use Rattle.centre_past.specs.Headline.{PendingGivesPlan}
use Rattle.centre_past.specs.Legal.{Known, Lawful, all_entries, checkpointed, past}
use Rattle.centre_events.specs.Folding.{base_of}
use Rattle.centre_events.specs.declared.event.Event.{Event}
use Rattle.centre_events.specs.declared.refusal.Refusal.{Refusal}
use Rattle.centre_events.specs.declared.refusal.Refusal.TheVariants as refusal
use Rattle.office.specs.Desks.{DeskState, IsReleased}
use Rattle.office.specs.Helds.{HeldState, IsEntered, fits}
use Rattle.office.specs.Offices.{IsFoldedSomewhere, IsRebuiltSomewhere, IsRefusedSomewhere, IsReleasedSomewhere, IsSameDesk, IsSeenSomewhere, IsSubmitted, IsUnseenSomewhere, Meets}
use Rattle.office.specs.Releases.{LetsGo}
use Rattle.office.specs.Statuses.{IsStatusSomewhere}
use Rattle.centre_past.specs.Lists.{status}
use Rattle.centre_past.specs.declared.lists.centre_status.CentreStatus.{CentreStatus}
use Rattle.centre_questions.specs.Questions.{RefusesQuestion, Shows}
use Rattle.centre_questions.specs.declared.question.Question.{Question}
use Rattle.office.specs.declared.seen.Seen.{Seen}
use Rattle.office.proofs.HeldLemmas.{IsKnown, known_if}

-- a centre of which a desk is as the office knows it
pub meets_if : (centre : Known) (opened : ℕ) (d : DeskState) → Lawful centre.settings (past centre) → PendingGivesPlan (past centre) → fits opened (all_entries centre) d ≡ true → Meets centre d
meets_if centre opened d lawful headline fit =
    let known : IsKnown opened (all_entries centre) d = known_if opened (all_entries centre) d fit in
    record { lawful = lawful; headline = headline; entries = known.entries; place = known.at; later = known.later }

-- room for receipts bears on none of this
meets_with : (centre : Known) (d e : DeskState) → e ≡ record d { spare = e.spare } → Meets centre e → Meets centre d
meets_with centre d e same is =
    let room : Meets centre (record d { spare = e.spare }) = subst (Meets centre) same is in
    record { lawful = room.lawful; headline = room.headline; entries = room.entries; place = room.place; later = room.later }

submitted_with : (centre new : Known) (d e after : DeskState) (event : Event) → e ≡ record d { spare = e.spare } → Meets centre e → IsEntered centre e event new after → IsSubmitted d event after
submitted_with centre new d e after event same is entered =
    let room : IsEntered centre (record d { spare = e.spare }) event new after = subst (λ s. IsEntered centre s event new after) same entered in
    record {
      centre = centre;
      meets = meets_with centre d e same is;
      answer = room.answer;
      is_verdict = room.is_verdict;
      message_fits = room.message_fits;
      receipts = room.receipts;
      number = room.number;
      released = room.released;
      held = room.held;
    }

pub submitted_if : {A : Type 0} (result : Result A Refusal) (centre new : Known) (opened : ℕ) (d e after : DeskState) (event : Event) → Lawful centre.settings (past centre) → PendingGivesPlan (past centre) → e ≡ record d { spare = e.spare } → OnOk result (fits opened (all_entries centre) e ≡ true) → OnOk result (IsEntered centre e event new after) → OnOk result (IsSubmitted d event after)
submitted_if (Ok done) centre new opened d e after event lawful headline same fit entered = submitted_with centre new d e after event same (meets_if centre opened e lawful headline fit) entered
submitted_if (Err r) centre new opened d e after event lawful headline same fit entered = entered

-- the cause of a refusal
abbrev cause_or : {A : Type 0} → Refusal → Result A Refusal → Refusal
cause_or r (Ok done) = r
cause_or r (Err cause) = cause

refused_by : {A : Type 0} (known : Bool) (r : Refusal) (centre : Known) (opened : ℕ) (d e : DeskState) (event : Event) → fits opened (all_entries centre) e ≡ known → Lawful centre.settings (past centre) → PendingGivesPlan (past centre) → e ≡ record d { spare = e.spare } → (fits opened (all_entries centre) e ≡ false → (let result : Result A Refusal = Err r in result) ≡ Err (refusal.WrongDesk (length (all_entries centre)))) → (fits opened (all_entries centre) e ≡ true → Refuses centre event r) → IsRefusedSomewhere d event r
refused_by {A} true r centre opened d e event fit lawful headline same wrong refuses = inr (inr (record { centre = centre; meets = meets_with centre d e same (meets_if centre opened e lawful headline fit); refuses = refuses fit }))
refused_by {A} false r centre opened d e event fit lawful headline same wrong refuses = inr (inl (length (all_entries centre), ap (cause_or {A = A} r) (wrong fit)))

pub refused_if : {A : Type 0} (result : Result A Refusal) (centre : Known) (opened : ℕ) (d e : DeskState) (event : Event) → Lawful centre.settings (past centre) → PendingGivesPlan (past centre) → e ≡ record d { spare = e.spare } → (fits opened (all_entries centre) e ≡ false → result ≡ Err (refusal.WrongDesk (length (all_entries centre)))) → IfErr result (λ r. fits opened (all_entries centre) e ≡ true → Refuses centre event r) → IfErr result (IsRefusedSomewhere d event)
refused_if (Ok done) centre opened d e event lawful headline same wrong refuses = refuses
refused_if {A} (Err r) centre opened d e event lawful headline same wrong refuses = refused_by {A = A} (fits opened (all_entries centre) e) r centre opened d e event refl lawful headline same wrong refuses

pub seen_if : (result : Result Seen Refusal) (centre : Known) (opened : ℕ) (d : DeskState) (q : Question) → Lawful centre.settings (past centre) → PendingGivesPlan (past centre) → OnOk result (fits opened (all_entries centre) d ≡ true) → IfOk result (λ s. s.position ≡ length (all_entries centre)) → IfOk result (λ s. Shows centre q s.value) → IfOk result (IsSeenSomewhere d q)
seen_if (Ok s) centre opened d q lawful headline fit position shows = record { centre = centre; meets = meets_if centre opened d lawful headline fit; position = position; shows = shows }
seen_if (Err r) centre opened d q lawful headline fit position shows = shows

unseen_by : (known : Bool) (r : Refusal) (centre : Known) (opened : ℕ) (d : DeskState) (q : Question) → fits opened (all_entries centre) d ≡ known → Lawful centre.settings (past centre) → PendingGivesPlan (past centre) → (fits opened (all_entries centre) d ≡ false → (let result : Result Seen Refusal = Err r in result) ≡ Err (refusal.WrongDesk (length (all_entries centre)))) → (fits opened (all_entries centre) d ≡ true → RefusesQuestion centre q r) → IsUnseenSomewhere d q r
unseen_by true r centre opened d q fit lawful headline wrong refuses = inr (record { centre = centre; meets = meets_if centre opened d lawful headline fit; refuses = refuses fit })
unseen_by false r centre opened d q fit lawful headline wrong refuses = inl (length (all_entries centre), ap (cause_or {A = Seen} r) (wrong fit))

pub unseen_if : (result : Result Seen Refusal) (centre : Known) (opened : ℕ) (d : DeskState) (q : Question) → Lawful centre.settings (past centre) → PendingGivesPlan (past centre) → (fits opened (all_entries centre) d ≡ false → result ≡ Err (refusal.WrongDesk (length (all_entries centre)))) → IfErr result (λ r. fits opened (all_entries centre) d ≡ true → RefusesQuestion centre q r) → IfErr result (IsUnseenSomewhere d q)
unseen_if (Ok s) centre opened d q lawful headline wrong refuses = refuses
unseen_if (Err r) centre opened d q lawful headline wrong refuses = unseen_by (fits opened (all_entries centre) d) r centre opened d q refl lawful headline wrong refuses

pub standing_if : (held : HeldState) (d : DeskState) (s : CentreStatus) → Lawful held.centre.settings (past held.centre) → PendingGivesPlan (past held.centre) → fits (length held.rows) (all_entries held.centre) d ≡ true → s ≡ status held.centre → IsStatusSomewhere d s
standing_if held d s lawful headline fit is = record { centre = held.centre; meets = meets_if held.centre (length held.rows) d lawful headline fit; is = is }

pub rebuilt_if : (old new : HeldState) (d : DeskState) → Lawful old.centre.settings (past old.centre) → PendingGivesPlan (past old.centre) → fits (length old.rows) (all_entries old.centre) d ≡ true → new ≡ record old { centre = record old.centre { stale = false } } → IsRebuiltSomewhere d
rebuilt_if old new d lawful headline fit is =
    let before : Meets old.centre d = meets_if old.centre (length old.rows) d lawful headline fit in
    record {
      centre = new.centre;
      meets = subst (λ (k : Known). Meets k d) (sym (ap (λ (h : HeldState). h.centre) is)) (record { lawful = before.lawful; headline = before.headline; entries = before.entries; place = before.place; later = before.later });
      whole = ap (λ (h : HeldState). h.centre.stale) is;
    }

pub folded_if : (result : Result ℕ Refusal) (centre new : Known) → Lawful centre.settings (past centre) → PendingGivesPlan (past centre) → IfOk result (λ n. n ≡ length centre.journal) → OnOk result (new ≡ checkpointed centre) → OnOk result (base_of (past new) ≡ base_of (past centre)) → OnOk result (centre.stale ≡ false) → IfOk result IsFoldedSomewhere
folded_if (Ok n) centre new lawful headline counted is same whole = record { centre = centre; lawful = lawful; headline = headline; whole = whole; counted = counted; same = subst (λ (k : Known). base_of (past k) ≡ base_of (past centre)) is same }
folded_if (Err r) centre new lawful headline counted is same whole = counted

pub lets_go_if : {A E : Type 0} (result : Result A E) (place : ℕ) (old new : DeskState) → OnOk result (IsReleased place old new) → OnErr result (new ≡ old) → LetsGo place old new
lets_go_if (Ok done) place old new released unchanged = inl released
lets_go_if (Err e) place old new released unchanged = inr unchanged

pub released_if : (centre : Known) (place : ℕ) (old new : DeskState) → Lawful centre.settings (past centre) → place ≡ length centre.folded → LetsGo place old new → IsReleasedSomewhere old new place
released_if centre place old new lawful is (inl released) = record { centre = centre; lawful = lawful; counted = is; same = released.same; released = inl released }
released_if centre place old new lawful is (inr unchanged) = record { centre = centre; lawful = lawful; counted = is; same = subst (IsSameDesk old) (sym unchanged) refl; released = inr unchanged }

-- a desk that let go of receipts again is still the same
pub same_more : (d e f : DeskState) → IsSameDesk d e → IsSameDesk e f → IsSameDesk d f
same_more d e f one two = two ∙ ap (λ (s : DeskState). record s { released = f.released; spare = f.spare }) one
