-- Wishes of the server's own: when one is kept, and that the wishes that are kept stay.
use Rattle.std.specs.Prelude.{◌≡◌, ℕ, Bool, true, ◌&&◌, not, List, Option, Some, is_some, if◌then◌else◌}
use Rattle.common.specs.declared.cell.Cell.{Cell}
use Rattle.centre_events.specs.InFlight.{in_flight}
use Rattle.centre_events.specs.Links.{is_bsc, is_up}
use Rattle.centre_past.specs.Headline.{PendingGivesPlan}
use Rattle.centre_past.specs.Legal.{Known, Lawful, past}
use Rattle.centre_past.specs.LinkStates.{has_pending}
use Rattle.office.specs.Wakes.{is_full}
use Rattle.office.specs.Wishes.{CanWish, wish_for, wish_of, with_wish}
use Rattle.office.specs.declared.wish.Wish.{Wish}

-- nothing is in flight to the BSC, no order is pending for it, and no wish for it is kept
abbrev pub has_nothing : Known → List Wish → ℕ → Bool
has_nothing centre wishes b = not (is_some (in_flight (past centre) b)) && (not (has_pending (past centre) b) && not (is_some (wish_for wishes b)))

-- the BSC is there, and its link is up
abbrev pub has_link : Known → ℕ → Bool
has_link centre b = is_bsc (past centre) b && is_up (past centre) b

-- the centre is whole, its journal takes more entries, and the link of the BSC is up and has nothing to do
abbrev pub is_idle : Known → List Wish → ℕ → Bool
is_idle centre wishes b = not centre.stale && (has_link centre b && (not (is_full centre) && has_nothing centre wishes b))

-- the wishes that are left where the wish is kept, or isn't
abbrev pub left_with : Bool → Wish → List Wish → List Wish
left_with kept w wishes = if kept then with_wish w wishes else wishes

-- the wish that was kept for a BSC still is, whichever BSC it is
abbrev pub KeepsWishes : List Wish → List Wish → Type 0
KeepsWishes old new = (b : ℕ) (w : Wish) → wish_for old b ≡ Some w → wish_for new b ≡ Some w

-- In some centre whose entries are lawful, after which the pending orders give the plan, the wish can be kept and the BSC's link was idle.
-- Of the wishes that are kept then it is the one for the BSC, and those that were kept before still are.
pub record IsOwnWishSomewhere (b w : ℕ) (after : Option Cell) : Type 0 where
  pub centre : Known
  pub before : List Wish
  pub wishes : List Wish
  pub lawful : Lawful centre.settings (past centre)
  pub headline : PendingGivesPlan (past centre)
  pub can : CanWish centre b w
  pub idle : is_idle centre before b ≡ true
  pub kept : wish_for wishes b ≡ Some (wish_of b w after)
  pub others : KeepsWishes before wishes

-- in some such centre, beside some wishes, the BSC's link was idle, or it wasn't
pub record IsIdleSomewhere (b : ℕ) (idle : Bool) : Type 0 where
  pub centre : Known
  pub wishes : List Wish
  pub lawful : Lawful centre.settings (past centre)
  pub headline : PendingGivesPlan (past centre)
  pub is : is_idle centre wishes b ≡ idle
