-- A wish that is kept where none was for its BSC leaves the others; and from what holds of it under the lock to what an office promises.
use Rattle.std.proofs.Common.{◌≡◌, ℕ, Bool, true, false, ◌&&◌, not, List, Option, None, Some, Result, Ok, Err, IfOk, IsTrue, nat_eq, refl, sym, ap, subst, ◌∙◌}
use Rattle.std.proofs.lemmas.Bool.{and_parts}
use Rattle.std.specs.Option.{is_some}
use Rattle.common.specs.declared.cell.Cell.{Cell}
use Rattle.centre_events.specs.InFlight.{in_flight}
use Rattle.centre_past.specs.Headline.{PendingGivesPlan}
use Rattle.centre_past.specs.Legal.{Known, Lawful, past}
use Rattle.centre_past.specs.LinkStates.{has_pending}
use Rattle.centre_events.specs.declared.refusal.Refusal.{Refusal}
use Rattle.office.specs.Helds.{HeldState}
use Rattle.office.specs.OwnWishes.{IsIdleSomewhere, IsOwnWishSomewhere, KeepsWishes, has_link, has_nothing, is_idle, left_with}
use Rattle.office.specs.Wakes.{is_full}
use Rattle.office.specs.Wishes.{CanWish, wish_for, wish_of, with_wish}
use Rattle.office.specs.declared.wish.Wish.{Wish}
use Rattle.office.proofs.DueLemmas.{same_bsc}
use Rattle.office.proofs.KeptLemmas.{wish_found}
use Rattle.office.proofs.WakingLemmas.{wish_left}

none_of : (o : Option Wish) → not (is_some o) ≡ true → o ≡ None
none_of None is = refl
none_of (Some w) is = cc

-- beside an idle link no wish is kept for its BSC
pub idle_unwished : (centre : Known) (wishes : List Wish) (b : ℕ) → is_idle centre wishes b ≡ true → wish_for wishes b ≡ None
idle_unwished centre wishes b idle =
    let whole = and_parts (not centre.stale) (has_link centre b && (not (is_full centre) && has_nothing centre wishes b)) idle in
    let up = and_parts (has_link centre b) (not (is_full centre) && has_nothing centre wishes b) whole.1 in
    let room = and_parts (not (is_full centre)) (has_nothing centre wishes b) up.1 in
    let flight = and_parts (not (is_some (in_flight (past centre) b))) (not (has_pending (past centre) b) && not (is_some (wish_for wishes b))) room.1 in
    let pending = and_parts (not (has_pending (past centre) b)) (not (is_some (wish_for wishes b))) flight.1 in
    none_of (wish_for wishes b) pending.1

-- a wish for a BSC for which none was kept takes no other's place
pub none_replaced : (w : Wish) (ws : List Wish) → wish_for ws w.bsc ≡ None → KeepsWishes ws (with_wish w ws)
none_replaced w ws none b v is = step (nat_eq w.bsc b) refl
  where
    step : (t : Bool) → nat_eq w.bsc b ≡ t → wish_for (with_wish w ws) b ≡ Some v
    step false other = wish_left w ws b other ∙ is
    step true same = let at : wish_for ws w.bsc ≡ Some v = ap (λ n. wish_for ws n) (same_bsc w.bsc b same) ∙ is in absurd (some_none v (sym at ∙ none))
      where
        some_none : (v : Wish) → Some v ≡ None → ⊥
        some_none v e = cc

others_kept : (old new : HeldState) (w : Wish) → is_idle old.centre old.wishes w.bsc ≡ true → new ≡ record old { wishes = with_wish w old.wishes } → KeepsWishes old.wishes new.wishes
others_kept old new w idle is = subst (λ (h : HeldState). KeepsWishes old.wishes h.wishes) (sym is) (none_replaced w old.wishes (idle_unwished old.centre old.wishes w.bsc idle))

pub own_wish_if : (result : Result Bool Refusal) (old new : HeldState) (b w : ℕ) (after : Option Cell) → Lawful old.centre.settings (past old.centre) → PendingGivesPlan (past old.centre) → IfOk result (λ kept. IsTrue kept → CanWish old.centre b w)
    → IfOk result (λ kept. kept ≡ is_idle old.centre old.wishes b) → IfOk result (λ kept. new ≡ record old { wishes = left_with kept (wish_of b w after) old.wishes })
    → IfOk result (λ kept. IsTrue kept → IsOwnWishSomewhere b w after)
own_wish_if (Ok true) old new b w after lawful headline can idle kept = λ yes. record {
  centre = old.centre;
  before = old.wishes;
  wishes = new.wishes;
  lawful = lawful;
  headline = headline;
  can = can yes;
  idle = sym idle;
  kept = ap (λ (h : HeldState). wish_for h.wishes b) kept ∙ wish_found (wish_of b w after) old.wishes;
  others = others_kept old new (wish_of b w after) (sym idle) kept;
}
own_wish_if (Ok false) old new b w after lawful headline can idle kept = λ yes. cc
own_wish_if (Err r) old new b w after lawful headline can idle kept = can

pub busy_if : (result : Result Bool Refusal) (old : HeldState) (b : ℕ) → Lawful old.centre.settings (past old.centre) → PendingGivesPlan (past old.centre)
    → IfOk result (λ kept. kept ≡ is_idle old.centre old.wishes b) → IfOk result (λ kept. kept ≡ false → IsIdleSomewhere b false)
busy_if (Ok true) old b lawful headline idle = λ no. cc
busy_if (Ok false) old b lawful headline idle = λ no. record { centre = old.centre; wishes = old.wishes; lawful = lawful; headline = headline; is = sym idle }
busy_if (Err r) old b lawful headline idle = idle

pub idle_as : (idle : Bool) (held : HeldState) (b : ℕ) → Lawful held.centre.settings (past held.centre) → PendingGivesPlan (past held.centre) → idle ≡ is_idle held.centre held.wishes b → IsIdleSomewhere b idle
idle_as idle held b lawful headline is = record { centre = held.centre; wishes = held.wishes; lawful = lawful; headline = headline; is = sym is }
