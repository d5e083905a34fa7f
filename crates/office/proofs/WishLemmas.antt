-- From what holds of wishes and wakes under the lock to what an office promises of them.
use Rattle.std.proofs.Common.{◌≡◌, ℕ, List, Option, Some, Result, Ok, Err, OnOk, IfErr, ◌∙◌, ap}
use Rattle.common.specs.declared.cell.Cell.{Cell}
use Rattle.centre_past.specs.Headline.{PendingGivesPlan}
use Rattle.centre_past.specs.Legal.{Known, Lawful, past}
use Rattle.centre_events.specs.declared.refusal.Refusal.{Refusal}
use Rattle.office.specs.Wakes.{IsDueSomewhere, due}
use Rattle.office.specs.Helds.{HeldState}
use Rattle.office.specs.Wishes.{CanWish, IsUnwishedSomewhere, IsWishedSomewhere, RefusesWish, wish_for, wish_of, with_wish}
use Rattle.office.specs.declared.wake.Wake.{Wake}
use Rattle.office.specs.declared.wish.Wish.{Wish}
use Rattle.office.proofs.KeptLemmas.{wish_found}

pub wished_if : {A : Type 0} (result : Result A Refusal) (old new : HeldState) (b w : ℕ) (after : Option Cell) → Lawful old.centre.settings (past old.centre) → PendingGivesPlan (past old.centre) → OnOk result (CanWish old.centre b w)
    → OnOk result (new ≡ record old { wishes = with_wish (wish_of b w after) old.wishes }) → OnOk result (IsWishedSomewhere b w after)
wished_if (Ok done) old new b w after lawful headline can kept = record {
  centre = old.centre;
  wishes = new.wishes;
  lawful = lawful;
  headline = headline;
  can = can;
  kept = ap (λ (h : HeldState). wish_for h.wishes b) kept ∙ wish_found (wish_of b w after) old.wishes;
}
wished_if (Err r) old new b w after lawful headline can kept = can

pub unwished_if : {A : Type 0} (result : Result A Refusal) (centre : Known) (wishes : List Wish) (b w : ℕ) → Lawful centre.settings (past centre) → PendingGivesPlan (past centre)
    → IfErr result (RefusesWish centre wishes b w) → IfErr result (IsUnwishedSomewhere b w)
unwished_if (Ok done) centre wishes b w lawful headline refuses = refuses
unwished_if (Err r) centre wishes b w lawful headline refuses = record { centre = centre; wishes = wishes; lawful = lawful; headline = headline; refuses = refuses }

pub due_if : (centre : Known) (wishes : List Wish) (b generation : ℕ) (w : Wake) → Lawful centre.settings (past centre) → PendingGivesPlan (past centre) → due centre wishes b generation ≡ Some w → IsDueSomewhere b generation w
due_if centre wishes b generation w lawful headline is = record { centre = centre; wishes = wishes; lawful = lawful; headline = headline; is_due = is }
