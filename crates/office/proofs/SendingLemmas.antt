-- What is due for a link is entered: from what holds under the lock to what an office promises of it.
use Rattle.std.proofs.Common.{◌≡◌, ◌⊎◌, ◌-◌, ◌+◌, ℕ, Bool, true, false, Some, Result, Ok, Err, OnOk, OnErr, IfErr, inl, inr, length, set, refl, sym, ap, ◌∙◌, subst}
use Rattle.std.specs.Prelude.{MatchBool}
use Rattle.centre_core.specs.Centre.{Leaves, Refuses}
use Rattle.centre_past.specs.Headline.{PendingGivesPlan}
use Rattle.centre_past.specs.Legal.{Lawful, all_entries, past}
use Rattle.centre_events.specs.declared.event.Event.{Event}
use Rattle.centre_events.specs.declared.event.Event.TheVariants as event
use Rattle.centre_events.specs.declared.refusal.Refusal.{Refusal}
use Rattle.centre_events.specs.declared.refusal.Refusal.TheVariants as refusal
use Rattle.office.specs.Desks.{DeskState}
use Rattle.office.specs.Helds.{HeldState, IsEntered, fits, row_at}
use Rattle.office.specs.Offices.{IsSameDesk, Meets}
use Rattle.office.specs.Sendings.{DoesDue, Enters, IsRefusedDue, IsSent, IsUnsent, LeavesOut, RefusesOf, SendsDue, Submits, SubmitsNothing, event_for, taken_by}
use Rattle.office.specs.Wakes.{IsDueSomewhere, due}
use Rattle.office.specs.declared.unsent.Unsent.{Unsent}
use Rattle.office.specs.declared.unsent.Unsent.TheVariants as unsent
use Rattle.office.specs.declared.wake.Wake.{Wake}
use Rattle.office.specs.declared.wake.Wake.TheVariants as wake
use Rattle.office.proofs.OfficeLemmas.{meets_if, same_more}

-- Under the lock.

-- room for receipts bears on none of this
enters_with : (event : Event) (old : HeldState) (d e : DeskState) (new : HeldState) (after : DeskState) → e ≡ record d { spare = e.spare } → Enters event old e new after → Enters event old d new after
enters_with event old d e new after same is =
    let room : Enters event old (record d { spare = e.spare }) new after = subst (λ s. Enters event old s new after) same is in
    let entered = room.entered in
    record {
      fitted = room.fitted;
      entered = record {
        answer = entered.answer;
        is_verdict = entered.is_verdict;
        whole = entered.whole;
        message_fits = entered.message_fits;
        entry = entered.entry;
        receipts = entered.receipts;
        number = entered.number;
        released = entered.released;
        held = entered.held;
      };
      counted = room.counted;
    }

pub enters_if : (event : Event) (old : HeldState) (d e : DeskState) (new : HeldState) (after : DeskState) → e ≡ record d { spare = e.spare } → fits (length old.rows) (all_entries old.centre) e ≡ true → IsEntered old.centre e event new.centre after
    → new ≡ record old { centre = new.centre; rows = set old.rows (e.number - 1) (row_at (length e.receipts + 1) (length (all_entries old.centre) + 1)); total = old.total + 1 } → Enters event old d new after
enters_if event old d e new after same fit entered counted = enters_with event old d e new after same (record { fitted = fit; entered = entered; counted = counted })

-- the same of what a submit answers
pub enters_on : {A : Type 0} (result : Result A Refusal) (event : Event) (old : HeldState) (d e : DeskState) (new : HeldState) (after : DeskState) → e ≡ record d { spare = e.spare } → OnOk result (fits (length old.rows) (all_entries old.centre) e ≡ true) → OnOk result (IsEntered old.centre e event new.centre after)
    → OnOk result (new ≡ record old { centre = new.centre; rows = set old.rows (e.number - 1) (row_at (length e.receipts + 1) (length (all_entries old.centre) + 1)); total = old.total + 1 }) → OnOk result (Enters event old d new after)
enters_on (Ok done) event old d e new after same fit entered counted = enters_if event old d e new after same fit entered counted
enters_on (Err r) event old d e new after same fit entered counted = entered

-- the cause of a refusal
abbrev cause_or : {A : Type 0} → Refusal → Result A Refusal → Refusal
cause_or r (Ok done) = r
cause_or r (Err cause) = cause

refuses_by : (known : Bool) (event : Event) (held : HeldState) (d : DeskState) (r : Refusal) → fits (length held.rows) (all_entries held.centre) d ≡ known → (known ≡ false → r ≡ refusal.WrongDesk (length (all_entries held.centre))) → (known ≡ true → Refuses held.centre event r) → RefusesOf event held d r
refuses_by true event held d r fit wrong refuses = rw fit (refuses refl)
refuses_by false event held d r fit wrong refuses = rw fit (wrong refl)

-- the desk's event is refused
pub left_out_if : {A : Type 0} (result : Result A Refusal) (r : Refusal) (event : Event) (old : HeldState) (d e : DeskState) (new : HeldState) (after : DeskState) → result ≡ Err r → e ≡ record d { spare = e.spare }
    → (fits (length old.rows) (all_entries old.centre) e ≡ false → result ≡ Err (refusal.WrongDesk (length (all_entries old.centre)))) → (fits (length old.rows) (all_entries old.centre) e ≡ true → Refuses old.centre event r)
    → Leaves old.centre r new.centre → new ≡ record old { centre = new.centre } → after ≡ e → LeavesOut event old d r new after
left_out_if {A} result r event old d e new after is same wrong refuses left others unchanged =
    let fit : fits (length old.rows) (all_entries old.centre) e ≡ fits (length old.rows) (all_entries old.centre) d = ap (fits (length old.rows) (all_entries old.centre)) same in
    let cause : RefusesOf event old d r = refuses_by (fits (length old.rows) (all_entries old.centre) d) event old d r refl
    (λ no. ap (cause_or {A = A} r) (sym is ∙ wrong (fit ∙ no))) (λ yes. refuses (fit ∙ yes)) in
    record {
      cause = inr cause;
      left = left;
      others = others;
      unchanged = unchanged ∙ same ∙ ap (λ n. record d { spare = n }) (ap (λ (s : DeskState). s.spare) (sym unchanged));
    }

-- why it is refused
pub cause_if : {A : Type 0} (result : Result A Refusal) (event : Event) (held : HeldState) (d e : DeskState) → e ≡ record d { spare = e.spare }
    → (fits (length held.rows) (all_entries held.centre) e ≡ false → result ≡ Err (refusal.WrongDesk (length (all_entries held.centre)))) → IfErr result (λ r. fits (length held.rows) (all_entries held.centre) e ≡ true → Refuses held.centre event r)
    → IfErr result (λ r. (r ≡ refusal.Memory) ⊎ RefusesOf event held d r)
cause_if (Ok done) event held d e same wrong refuses = refuses
cause_if {A} (Err r) event held d e same wrong refuses =
    let fit : fits (length held.rows) (all_entries held.centre) e ≡ fits (length held.rows) (all_entries held.centre) d = ap (fits (length held.rows) (all_entries held.centre)) same in
    inr (refuses_by (fits (length held.rows) (all_entries held.centre) d) event held d r refl (λ no. ap (cause_or {A = A} r) (wrong (fit ∙ no))) (λ yes. refuses (fit ∙ yes)))

-- memory ran out for the desk's receipt
pub left_out_full : (event : Event) (held : HeldState) (d e : DeskState) → d.spare ≡ 0 → e ≡ record d { spare = e.spare } → LeavesOut event held d refusal.Memory held e
left_out_full event held d e full same = record { cause = inl (refl, full); left = inl refl; others = refl; unchanged = same }

-- What an office promises of it.

module _ (b generation : ℕ) (old new : HeldState) (first before after : DeskState) (w : Wake) (lawful : Lawful old.centre.settings (past old.centre)) (headline : PendingGivesPlan (past old.centre)) (same : IsSameDesk first before)
    (is : due old.centre old.wishes b generation ≡ Some w) where
  sent : (e : Event) → event_for b generation w ≡ Some e → Enters e (taken_by w b old) before new after → IsSent b generation first after
  sent e is_event enters = record {
    desk = before;
    same = same;
    wake = w;
    event = e;
    is_event = is_event;
    submitted = record {
      centre = old.centre;
      meets = meets_if old.centre (length old.rows) before lawful headline enters.fitted;
      answer = enters.entered.answer;
      is_verdict = enters.entered.is_verdict;
      message_fits = enters.entered.message_fits;
      receipts = enters.entered.receipts;
      number = enters.entered.number;
      released = enters.entered.released;
      held = enters.entered.held;
    };
    wishes = old.wishes;
    is_due = is;
  }

  meets_after : Meets old.centre before → after ≡ record before { spare = after.spare } → Meets old.centre after
  meets_after meets unchanged = subst (Meets old.centre) (sym unchanged) (record { lawful = meets.lawful; headline = meets.headline; entries = meets.entries; place = meets.place; later = meets.later })

  refused_by : (known : Bool) (e : Event) (r : Refusal) → fits (length old.rows) (all_entries old.centre) before ≡ known → after ≡ record before { spare = after.spare } → MatchBool known (Refuses old.centre e r) (r ≡ refusal.WrongDesk (length (all_entries old.centre)))
      → (r ≡ refusal.WrongDesk (length (all_entries old.centre))) ⊎ (Meets old.centre after × Refuses old.centre e r)
  refused_by true e r fit unchanged refuses = inr (meets_after (meets_if old.centre (length old.rows) before lawful headline fit) unchanged, refuses)
  refused_by false e r fit unchanged refuses = inl refuses

  refused : (e : Event) (r : Refusal) → event_for b generation w ≡ Some e → LeavesOut e (taken_by w b old) before r new after → IsRefusedDue b generation after r
  refused e r is_event out = record {
    centre = old.centre;
    wishes = old.wishes;
    lawful = lawful;
    headline = headline;
    wake = w;
    is_due = is;
    event = e;
    is_event = is_event;
    cause = elim out.cause [ inl memory ↦ inl memory.0 | inr refuses ↦ inr (refused_by (fits (length old.rows) (all_entries old.centre) before) e r refl out.unchanged refuses) ];
  }

  submits_sent : (e : Event) (result : Result Unit Unsent) → event_for b generation w ≡ Some e → Submits e (taken_by w b old) before result new after → OnOk result (IsSent b generation first after)
  submits_sent e (Ok done) is_event submits = sent e is_event submits
  submits_sent e (Err u) is_event submits = tt

  submits_unsent : (e : Event) (result : Result Unit Unsent) → event_for b generation w ≡ Some e → Submits e (taken_by w b old) before result new after → IfErr result (IsUnsent b generation after)
  submits_unsent e (Ok done) is_event submits = tt
  submits_unsent e (Err (unsent.Refused r)) is_event submits = refused e r is_event submits
  submits_unsent e (Err unsent.Ended) is_event submits = absurd submits
  submits_unsent e (Err unsent.StaleCentre) is_event submits = absurd submits

  submits_same : (e : Event) (result : Result Unit Unsent) → Submits e (taken_by w b old) before result new after → OnErr result (IsSameDesk first after)
  submits_same e (Ok done) submits = tt
  submits_same e (Err (unsent.Refused r)) submits = same_more first before after same (submits.unchanged ∙ sym (ap (λ n. record before { released = n; spare = after.spare }) (ap (λ (s : DeskState). s.released) submits.unchanged)))
  submits_same e (Err unsent.Ended) submits = absurd submits
  submits_same e (Err unsent.StaleCentre) submits = absurd submits

  -- nothing was submitted
  nothing_sent : (why : Unsent) (result : Result Unit Unsent) → SubmitsNothing why (taken_by w b old) before result new after → OnOk result (IsSent b generation first after)
  nothing_sent why result does = subst (λ (r : Result Unit Unsent). OnOk r (IsSent b generation first after)) (sym does.0) tt

  nothing_unsent : (why : Unsent) (result : Result Unit Unsent) → IsUnsent b generation after why → SubmitsNothing why (taken_by w b old) before result new after → IfErr result (IsUnsent b generation after)
  nothing_unsent why result cause does = subst (λ (r : Result Unit Unsent). IfErr r (IsUnsent b generation after)) (sym does.0) cause

  nothing_same : (why : Unsent) (result : Result Unit Unsent) → SubmitsNothing why (taken_by w b old) before result new after → OnErr result (IsSameDesk first after)
  nothing_same why result does = subst (λ (r : Result Unit Unsent). OnErr r (IsSameDesk first after)) (sym does.0) (subst (IsSameDesk first) (sym does.1.1) same)

  is_so : IsDueSomewhere b generation w
  is_so = record { centre = old.centre; wishes = old.wishes; lawful = lawful; headline = headline; is_due = is }

does_sent : (b generation : ℕ) (old new : HeldState) (first before after : DeskState) (w : Wake) (result : Result Unit Unsent) → Lawful old.centre.settings (past old.centre) → PendingGivesPlan (past old.centre) → IsSameDesk first before
    → due old.centre old.wishes b generation ≡ Some w → DoesDue b generation w (taken_by w b old) before result new after → OnOk result (IsSent b generation first after)
does_sent b generation old new first before after wake.Order result lawful headline same is does = submits_sent b generation old new first before after wake.Order lawful headline same is (event.Send b generation) result refl does
does_sent b generation old new first before after (wake.Query x cells) result lawful headline same is does = submits_sent b generation old new first before after (wake.Query x cells) lawful headline same is (event.Ask b generation x cells) result refl does
does_sent b generation old new first before after wake.Ended result lawful headline same is does = nothing_sent b generation old new first before after wake.Ended lawful headline same is unsent.Ended result does
does_sent b generation old new first before after wake.StaleCentre result lawful headline same is does = nothing_sent b generation old new first before after wake.StaleCentre lawful headline same is unsent.StaleCentre result does

does_unsent : (b generation : ℕ) (old new : HeldState) (first before after : DeskState) (w : Wake) (result : Result Unit Unsent) → Lawful old.centre.settings (past old.centre) → PendingGivesPlan (past old.centre) → IsSameDesk first before
    → due old.centre old.wishes b generation ≡ Some w → DoesDue b generation w (taken_by w b old) before result new after → IfErr result (IsUnsent b generation after)
does_unsent b generation old new first before after wake.Order result lawful headline same is does = submits_unsent b generation old new first before after wake.Order lawful headline same is (event.Send b generation) result refl does
does_unsent b generation old new first before after (wake.Query x cells) result lawful headline same is does = submits_unsent b generation old new first before after (wake.Query x cells) lawful headline same is (event.Ask b generation x cells) result refl does
does_unsent b generation old new first before after wake.Ended result lawful headline same is does =
    nothing_unsent b generation old new first before after wake.Ended lawful headline same is unsent.Ended result (is_so b generation old new first before after wake.Ended lawful headline same is) does
does_unsent b generation old new first before after wake.StaleCentre result lawful headline same is does =
    nothing_unsent b generation old new first before after wake.StaleCentre lawful headline same is unsent.StaleCentre result (is_so b generation old new first before after wake.StaleCentre lawful headline same is) does

does_same : (b generation : ℕ) (old new : HeldState) (first before after : DeskState) (w : Wake) (result : Result Unit Unsent) → Lawful old.centre.settings (past old.centre) → PendingGivesPlan (past old.centre) → IsSameDesk first before
    → due old.centre old.wishes b generation ≡ Some w → DoesDue b generation w (taken_by w b old) before result new after → OnErr result (IsSameDesk first after)
does_same b generation old new first before after wake.Order result lawful headline same is does = submits_same b generation old new first before after wake.Order lawful headline same is (event.Send b generation) result does
does_same b generation old new first before after (wake.Query x cells) result lawful headline same is does = submits_same b generation old new first before after (wake.Query x cells) lawful headline same is (event.Ask b generation x cells) result does
does_same b generation old new first before after wake.Ended result lawful headline same is does = nothing_same b generation old new first before after wake.Ended lawful headline same is unsent.Ended result does
does_same b generation old new first before after wake.StaleCentre result lawful headline same is does = nothing_same b generation old new first before after wake.StaleCentre lawful headline same is unsent.StaleCentre result does

pub sent_if : (b generation : ℕ) (old new : HeldState) (first before after : DeskState) (result : Result Unit Unsent) → Lawful old.centre.settings (past old.centre) → PendingGivesPlan (past old.centre) → IsSameDesk first before
    → SendsDue old before b generation (Some result) new after → OnOk result (IsSent b generation first after)
sent_if b generation old new first before after result lawful headline same does = does_sent b generation old new first before after does.0 result lawful headline same does.1 does.2

pub unsent_if : (b generation : ℕ) (old new : HeldState) (first before after : DeskState) (result : Result Unit Unsent) → Lawful old.centre.settings (past old.centre) → PendingGivesPlan (past old.centre) → IsSameDesk first before
    → SendsDue old before b generation (Some result) new after → IfErr result (IsUnsent b generation after)
unsent_if b generation old new first before after result lawful headline same does = does_unsent b generation old new first before after does.0 result lawful headline same does.1 does.2

pub same_if : (b generation : ℕ) (old new : HeldState) (first before after : DeskState) (result : Result Unit Unsent) → Lawful old.centre.settings (past old.centre) → PendingGivesPlan (past old.centre) → IsSameDesk first before
    → SendsDue old before b generation (Some result) new after → OnErr result (IsSameDesk first after)
same_if b generation old new first before after result lawful headline same does = does_same b generation old new first before after does.0 result lawful headline same does.1 does.2
