-- What there is to do for the link of a BSC.
use Rattle.std.specs.Prelude.{◌≡◌, ℕ, Bool, ◌&&◌, List, Option, Some, None, is_some, nat_eq, if◌then◌else◌}
use Rattle.centre_past.specs.Headline.{PendingGivesPlan}
use Rattle.centre_past.specs.Legal.{Known, Lawful, past}
use Rattle.centre_past.specs.LinkStates.{link_state}
use Rattle.centre_events.specs.InFlight.{in_flight}
use Rattle.centre_events.specs.Links.{is_bsc, is_up, last_link}
use Rattle.centre_events.specs.Verdict.{is_full as has_no_room}
use Rattle.office.specs.Wishes.{wish_for, without_wish}
use Rattle.office.specs.declared.wake.Wake.{Wake}
use Rattle.office.specs.declared.wake.Wake.TheVariants as wake
use Rattle.office.specs.declared.wish.Wish.{Wish}

-- the link of that generation is the BSC's latest, and up
abbrev pub is_linked : Known → ℕ → ℕ → Bool
is_linked centre b generation = is_bsc (past centre) b && (nat_eq (last_link (past centre) b) generation && is_up (past centre) b)

-- the journal takes no more entries: it has as many as it may since entries were last folded, or the last position is reached
abbrev pub is_full : Known → Bool
is_full centre = has_no_room centre.settings (past centre)

-- to ask what is wished for, if something is
abbrev pub query_of : Option Wish → Option Wake
query_of None = None
query_of (Some w) = Some (wake.Query w.warning w.after)

-- what there is to do over the BSC's link, which is up. Where the journal is full, a Send says so. Else nothing while something is in
-- flight; then a pending order comes before the query that is wished for
abbrev pub due_over : Known → List Wish → ℕ → Option Wake
due_over centre wishes b =
    if is_full centre then Some wake.Order
    else (if is_some (in_flight (past centre) b) then None
    else (if (link_state (past centre) b).has_pending then Some wake.Order else query_of (wish_for wishes b)))

-- what there is to do for the link of that generation, the first of these: to end where the centre is stale, or the link isn't up,
-- and else what there is to do over it
abbrev pub due : Known → List Wish → ℕ → ℕ → Option Wake
due centre wishes b generation =
    if centre.stale then Some wake.StaleCentre
    else (if is_linked centre b generation then due_over centre wishes b else Some wake.Ended)

-- the wishes that are left where that is answered: a query takes out the BSC's wish, and nothing else does
abbrev pub left_by : Option Wake → ℕ → List Wish → List Wish
left_by (Some (wake.Query w after)) b wishes = without_wish b wishes
left_by other b wishes = wishes

-- in some centre whose entries are lawful, after which the pending orders give the plan, and beside some wishes, that is to do
pub record IsDueSomewhere (b generation : ℕ) (w : Wake) : Type 0 where
  pub centre : Known
  pub wishes : List Wish
  pub lawful : Lawful centre.settings (past centre)
  pub headline : PendingGivesPlan (past centre)
  pub is_due : due centre wishes b generation ≡ Some w
