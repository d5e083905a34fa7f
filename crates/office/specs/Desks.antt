-- What contracts see of a desk, what always holds of one, and what it is after it let go of receipts.
use Rattle.std.specs.Prelude.{◌≡◌, ◌≤◌, ◌<◌, ℕ, List, [], ◌∷◌, length, take, drop, All}
use Rattle.centre_events.specs.Verdict.{last_position}
use Rattle.office.specs.Receipts.{last_place}
use Rattle.office.specs.declared.receipt.Receipt.{Receipt}

-- a desk: its number, its receipts, how many of them, the first, it let go of, for how many more it has room, and the amount of its
-- share
pub record DeskState : Type 0 where
  pub number : ℕ
  pub receipts : List Receipt
  pub released : ℕ
  pub spare : ℕ
  pub share : ℕ

-- each receipt's place is above the one before it
abbrev pub AreRising : ℕ → List Receipt → Type 0
AreRising before [] = Unit {0}
AreRising before (r ∷ rs) = (before < r.place) × AreRising r.place rs

-- the receipts that a desk let go of are so many, the last of them at that place
pub record AreReleased (count last : ℕ) (released : List Receipt) : Type 0 where
  pub counted : count ≡ length released
  pub last_is : last ≡ last_place released

-- the places of the receipts rise, the last place is that of the last receipt and one that an entry may have, and the share is one part,
-- whose amount is the number of the receipts
pub record IsDesk (last : ℕ) (receipts : List Receipt) (parts amount : ℕ) : Type 0 where
  pub last_is : last ≡ last_place receipts
  pub last_fits : last ≤ last_position
  pub one_part : parts ≡ 1
  pub counted : amount ≡ length receipts
  pub rising : AreRising 0 receipts

-- the first of the receipts, if there is one, is above that place
abbrev pub BeginsAbove : ℕ → List Receipt → Type 0
BeginsAbove place [] = Unit {0}
BeginsAbove place (r ∷ rs) = place < r.place

-- the desk let go of its receipts up to that place, and of no other
pub record IsReleased (place : ℕ) (old new : DeskState) : Type 0 where
  pub same : new ≡ record old { released = new.released; spare = new.spare }
  pub more : old.released ≤ new.released
  pub places : All (λ (r : Receipt). r.place ≤ place) (drop old.released (take new.released old.receipts))
  pub all : BeginsAbove place (drop new.released old.receipts)
