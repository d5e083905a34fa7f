-- What is due for the link of a BSC is entered, in one step: what that makes of what stands under the lock and of the desk, and what
-- an office promises of it.
use Rattle.std.specs.Prelude.{◌≡◌, ◌⊎◌, ◌+◌, ◌-◌, ℕ, true, List, Option, Some, None, Result, Ok, Err, MatchBool, length, set}
use Rattle.centre_core.specs.Centre.{Leaves, Refuses}
use Rattle.centre_past.specs.Headline.{PendingGivesPlan}
use Rattle.centre_past.specs.Legal.{Known, Lawful, all_entries, past}
use Rattle.centre_events.specs.declared.event.Event.{Event}
use Rattle.centre_events.specs.declared.event.Event.TheVariants as event
use Rattle.centre_events.specs.declared.refusal.Refusal.{Refusal}
use Rattle.centre_events.specs.declared.refusal.Refusal.TheVariants as refusal
use Rattle.office.specs.Desks.{DeskState}
use Rattle.office.specs.Helds.{HeldState, IsEntered, fits, row_at}
use Rattle.office.specs.Offices.{IsSameDesk, IsSubmitted, Meets}
use Rattle.office.specs.Wakes.{IsDueSomewhere, due, left_by}
use Rattle.office.specs.declared.unsent.Unsent.{Unsent}
use Rattle.office.specs.declared.unsent.Unsent.TheVariants as unsent
use Rattle.office.specs.declared.wake.Wake.{Wake}
use Rattle.office.specs.declared.wake.Wake.TheVariants as wake
use Rattle.office.specs.declared.wish.Wish.{Wish}

-- the desk's event is the one new entry, of which its row and the book know, and the desk has its receipt
pub record Enters (event : Event) (old : HeldState) (before : DeskState) (new : HeldState) (after : DeskState) : Type 0 where
  pub fitted : fits (length old.rows) (all_entries old.centre) before ≡ true
  pub entered : IsEntered old.centre before event new.centre after
  pub counted : new ≡ record old { centre = new.centre; rows = set old.rows (before.number - 1) (row_at (length before.receipts + 1) (length (all_entries old.centre) + 1)); total = old.total + 1 }

-- why the desk's event isn't entered: the centre refuses it, if the desk is as the office knows it
abbrev pub RefusesOf : Event → HeldState → DeskState → Refusal → Type 0
RefusesOf event held d r = MatchBool (fits (length held.rows) (all_entries held.centre) d) (Refuses held.centre event r) (r ≡ refusal.WrongDesk (length (all_entries held.centre)))

-- the desk's event isn't entered: there was no memory for its receipt, or it is refused, and nothing else changed, but that the
-- centre may be stale after memory ran out
pub record LeavesOut (event : Event) (old : HeldState) (before : DeskState) (r : Refusal) (new : HeldState) (after : DeskState) : Type 0 where
  pub cause : ((r ≡ refusal.Memory) × (before.spare ≡ 0)) ⊎ RefusesOf event old before r
  pub left : Leaves old.centre r new.centre
  pub others : new ≡ record old { centre = new.centre }
  pub unchanged : after ≡ record before { spare = after.spare }

-- the desk's event was submitted, which answered that
abbrev pub Submits : Event → HeldState → DeskState → Result Unit Unsent → HeldState → DeskState → Type 0
Submits event old before (Ok done) new after = Enters event old before new after
Submits event old before (Err (unsent.Refused r)) new after = LeavesOut event old before r new after
Submits event old before (Err other) new after = ⊥

-- nothing was submitted, for that reason
abbrev pub SubmitsNothing : Unsent → HeldState → DeskState → Result Unit Unsent → HeldState → DeskState → Type 0
SubmitsNothing why old before result new after = (result ≡ Err why) × ((new ≡ old) × (after ≡ before))

-- what there is to do for the link was done: a Send of the desk was submitted for an order, an Ask for a query, and nothing where the
-- link is over or the centre is stale
abbrev pub DoesDue : ℕ → ℕ → Wake → HeldState → DeskState → Result Unit Unsent → HeldState → DeskState → Type 0
DoesDue b generation wake.Order old before result new after = Submits (event.Send b generation) old before result new after
DoesDue b generation (wake.Query w cells) old before result new after = Submits (event.Ask b generation w cells) old before result new after
DoesDue b generation wake.Ended old before result new after = SubmitsNothing unsent.Ended old before result new after
DoesDue b generation wake.StaleCentre old before result new after = SubmitsNothing unsent.StaleCentre old before result new after

-- what stands under the lock once the wish is taken out of a query that there is to do
abbrev pub taken_by : Wake → ℕ → HeldState → HeldState
taken_by w b held = record held { wishes = left_by (Some w) b held.wishes }

-- The one step for a link: what there is to do for it, if there is something, is done. A query's wish is taken out, whatever its Ask
-- is answered. Where there is nothing to do nothing changed.
abbrev pub SendsDue : HeldState → DeskState → ℕ → ℕ → Option (Result Unit Unsent) → HeldState → DeskState → Type 0
SendsDue old before b generation None new after = (due old.centre old.wishes b generation ≡ None) × ((new ≡ old) × (after ≡ before))
SendsDue old before b generation (Some result) new after =
    (w : Wake) × (due old.centre old.wishes b generation ≡ Some w) × DoesDue b generation w (taken_by w b old) before result new after

-- the event by which what there is to do is entered; none where the link is over or the centre is stale
abbrev pub event_for : ℕ → ℕ → Wake → Option Event
event_for b generation wake.Order = Some (event.Send b generation)
event_for b generation (wake.Query w cells) = Some (event.Ask b generation w cells)
event_for b generation wake.Ended = None
event_for b generation wake.StaleCentre = None

-- the desk let go of receipts alone, and then, in some centre in which that was to do for the link, beside some wishes, its event was
-- accepted
pub record IsSent (b generation : ℕ) (before after : DeskState) : Type 0 where
  pub desk : DeskState
  pub same : IsSameDesk before desk
  pub wake : Wake
  pub event : Event
  pub is_event : event_for b generation wake ≡ Some event
  pub submitted : IsSubmitted desk event after
  pub wishes : List Wish
  pub is_due : due submitted.centre wishes b generation ≡ Some wake

-- In some centre whose entries are lawful, after which the pending orders give the plan, that was to do for the link, beside some
-- wishes, and the desk's event of it wasn't entered: memory ran out, or the desk isn't as the office knows it, or the event is refused
-- in that centre.
pub record IsRefusedDue (b generation : ℕ) (d : DeskState) (r : Refusal) : Type 0 where
  pub centre : Known
  pub wishes : List Wish
  pub lawful : Lawful centre.settings (past centre)
  pub headline : PendingGivesPlan (past centre)
  pub wake : Wake
  pub is_due : due centre wishes b generation ≡ Some wake
  pub event : Event
  pub is_event : event_for b generation wake ≡ Some event
  pub cause : (r ≡ refusal.Memory) ⊎ ((r ≡ refusal.WrongDesk (length (all_entries centre))) ⊎ (Meets centre d × Refuses centre event r))

-- why nothing was entered for the link: in some centre it was over, or the centre was stale, or what was to do is refused there
abbrev pub IsUnsent : ℕ → ℕ → DeskState → Unsent → Type 0
IsUnsent b generation d unsent.Ended = IsDueSomewhere b generation wake.Ended
IsUnsent b generation d unsent.StaleCentre = IsDueSomewhere b generation wake.StaleCentre
IsUnsent b generation d (unsent.Refused r) = IsRefusedDue b generation d r
