-- What is told of what an area selects of a location area.
use Rattle.std.specs.Prelude.{ℕ, ◌-◌, ◌/◌, ◌%◌, ◌^◌, ◌≡◌, Bool, true, false, ◌&&◌, not, List, length, take, nat_eq, nat_le, if◌then◌else◌, Option, IfSome}
use Rattle.std.specs.List.{list_any, slice_index_or}
use Rattle.common.specs.Order.{is_ascending}
use Rattle.areas.specs.Selector.{lac_of, selector_eq, selector_lt}
use Rattle.areas.specs.declared.selector.Selector.{Selector}
use Rattle.areas.specs.declared.selector.Selector.TheVariants as selector
use Rattle.areas.specs.declared.share.Share.{Share}
use Rattle.areas.specs.declared.share.Share.TheVariants.{Nothing, All, From}
use Rattle.areas.specs.declared.shares.Shares.{Shares}

-- the selector is the location area, or a cell of it
abbrev pub is_of : ℕ → Selector → Bool
is_of l s = nat_eq (lac_of s) l

-- what is told of the location area holds of the selectors: none is of it, it is one of them, or the first n aren't of it
abbrev pub tells : List Selector → ℕ → Share → Bool
tells xs l Nothing = not (list_any (is_of l) xs)
tells xs l All = list_any (λ t. selector_eq t (selector.Lac l)) xs
tells xs l (From n) = nat_le n (length xs) && not (list_any (is_of l) (take n xs))

-- in which range of equally many location areas the location area is
abbrev pub range_of : Shares → ℕ → ℕ
range_of s l = (l - s.first) / 2 ^ (s.shift % 16)

-- the two location areas are in one range
abbrev pub are_together : Shares → ℕ → ℕ → Bool
are_together s k l = nat_le s.first k && (nat_le s.first l && nat_eq (range_of s k) (range_of s l))

-- what is told of the location area
abbrev pub share_of : Shares → ℕ → Share
share_of s l = if nat_le s.first l then slice_index_or s.shares (range_of s l) (From 0) else From 0

-- what is told of each location area holds of the selectors
abbrev pub Tells : List Selector → Shares → Type 0
Tells xs s = (l : ℕ) → tells xs l (share_of s l) ≡ true

-- the selector is all of the range that it is in
abbrev pub is_whole : Shares → Selector → Bool
is_whole s (selector.Lac l) = nat_eq (s.shift % 16) 0
is_whole s (selector.Cell c) = false

-- what is told of a range with one more selector in it, which is the whole of the range, or stands at that place
abbrev pub with_selector : Bool → Share → ℕ → Share
with_selector true Nothing n = All
with_selector false Nothing n = From n
with_selector whole share n = share

-- the selectors are in order, and what is told of each location area, if anything is, holds of them
pub record IsCoverage (xs : List Selector) (shares : Option Shares) : Type 0 where
  pub ordered : is_ascending selector_lt xs ≡ true
  pub told : IfSome shares (Tells xs)
