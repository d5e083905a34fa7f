-- Wishes for queries: those that are kept, when one is kept, and why one is refused.
use Rattle.std.specs.Prelude.{◌≡◌, ◌⊎◌, ℕ, Bool, true, false, not, List, [], ◌∷◌, ◌++◌, Option, None, Some, IsSome, nat_eq, find}
use Rattle.std.specs.List.{filter}
use Rattle.common.specs.declared.cell.Cell.{Cell}
use Rattle.centre_past.specs.Headline.{PendingGivesPlan}
use Rattle.centre_past.specs.Legal.{Known, Lawful, past}
use Rattle.centre_past.specs.Numbers.{board}
use Rattle.centre_events.specs.Links.{is_bsc}
use Rattle.centre_events.specs.declared.refusal.Refusal.{Refusal}
use Rattle.centre_events.specs.declared.refusal.Refusal.TheVariants as refusal
use Rattle.office.specs.declared.wish.Wish.{Wish}

-- a wish to ask the BSC about the warning, in the cells after that one
abbrev pub wish_of : ℕ → ℕ → Option Cell → Wish
wish_of b w after = record { bsc = b; warning = w; after = after }

-- the wish is for the BSC
abbrev pub is_wish_of : ℕ → Wish → Bool
is_wish_of b w = nat_eq w.bsc b

-- the wish for the BSC, if one is kept
abbrev pub wish_for : List Wish → ℕ → Option Wish
wish_for wishes b = find (is_wish_of b) wishes

-- the wishes for other BSCs
abbrev pub without_wish : ℕ → List Wish → List Wish
without_wish b wishes = filter (λ w. not (is_wish_of b w)) wishes

-- with the wish, in the place of the one for its BSC
abbrev pub with_wish : Wish → List Wish → List Wish
with_wish w wishes = without_wish w.bsc wishes ++ w ∷ []

-- both wishes are for one BSC
abbrev pub is_same_bsc : Wish → Wish → Bool
is_same_bsc v w = nat_eq v.bsc w.bsc

-- the centre is whole, and has the BSC and the warning
abbrev pub CanWish : Known → ℕ → ℕ → Type 0
CanWish centre b w = (centre.stale ≡ false) × (is_bsc (past centre) b ≡ true) × IsSome (board (past centre) w)

-- why a wish is refused: the first of these that holds. The centre is stale, the BSC or the warning isn't there, or memory runs out
-- for a wish that takes no other's place
abbrev pub RefusesWish : Known → List Wish → ℕ → ℕ → Refusal → Type 0
RefusesWish centre wishes b w r = ((r ≡ refusal.Stale) × (centre.stale ≡ true))
    ⊎ (((r ≡ refusal.NoSuchBsc) × (centre.stale ≡ false) × (is_bsc (past centre) b ≡ false))
    ⊎ (((r ≡ refusal.NoSuchWarning) × (centre.stale ≡ false) × (is_bsc (past centre) b ≡ true) × (board (past centre) w ≡ None))
    ⊎ ((r ≡ refusal.Memory) × CanWish centre b w × (wish_for wishes b ≡ None))))

-- in some centre whose entries are lawful, after which the pending orders give the plan, the wish can be kept, and of the wishes
-- that are kept it is the one for the BSC, with the cell after which it asks
pub record IsWishedSomewhere (b w : ℕ) (after : Option Cell) : Type 0 where
  pub centre : Known
  pub wishes : List Wish
  pub lawful : Lawful centre.settings (past centre)
  pub headline : PendingGivesPlan (past centre)
  pub can : CanWish centre b w
  pub kept : wish_for wishes b ≡ Some (wish_of b w after)

-- in some such centre, beside some wishes, it is refused for that cause
pub record IsUnwishedSomewhere (b w : ℕ) (r : Refusal) : Type 0 where
  pub centre : Known
  pub wishes : List Wish
  pub lawful : Lawful centre.settings (past centre)
  pub headline : PendingGivesPlan (past centre)
  pub refuses : RefusesWish centre wishes b w r
