-- Areas as a list, in the order of the octets of their names: what it has, and what each edit makes of it.
use Rattle.std.specs.Prelude.{ℕ, ◌≤◌, ◌≡◌, Bool, true, ◌||◌, not, List, [], ◌∷◌, map, bytes_eq, length, if◌then◌else◌}
use Rattle.std.specs.List.{list_any, filter}
use Rattle.common.specs.Order.{inserted, is_ascending}
use Rattle.common.specs.declared.cell.Cell.{Cell}
use Rattle.areas.specs.Name.{octets_lt}
use Rattle.areas.specs.Selector.{selector_eq, selector_lt}
use Rattle.areas.specs.declared.area.Area.{Area}
use Rattle.areas.specs.declared.selector.Selector.{Selector}
use Rattle.areas.specs.declared.selector.Selector.TheVariants as selector

-- the area has the name
abbrev pub is_named : List ℕ → Area → Bool
is_named a x = bytes_eq x.name a

-- there is an area of that name
abbrev pub has_area : List Area → List ℕ → Bool
has_area l a = list_any (is_named a) l

-- the selectors of the area of that name; none where there is no such area
abbrev pub selectors_of : List Area → List ℕ → List Selector
selectors_of [] a = []
selectors_of (x ∷ l) a = if is_named a x then x.selectors else selectors_of l a

-- the selector is one of them
abbrev pub is_among : Selector → List Selector → Bool
is_among s xs = list_any (λ t. selector_eq t s) xs

-- the area has the selector
abbrev pub has_selector : List Area → List ℕ → Selector → Bool
has_selector l a s = is_among s (selectors_of l a)

-- one of the selectors is the cell or its location area
abbrev pub selects : List Selector → Cell → Bool
selects xs c = is_among (selector.Cell c) xs || is_among (selector.Lac c.lac) xs

-- one of the area's selectors is the cell or its location area
abbrev pub covers : List Area → List ℕ → Cell → Bool
covers l a c = has_selector l a (selector.Cell c) || has_selector l a (selector.Lac c.lac)

-- the names of the areas, in order
abbrev pub names_of : List Area → List (List ℕ)
names_of l = map (λ x. x.name) l

-- the names of the areas that cover the cell, in order
abbrev pub areas_of : List Area → Cell → List (List ℕ)
areas_of l c = filter (λ a. covers l a c) (names_of l)

-- an area without selectors
abbrev pub empty_area : List ℕ → Area
empty_area a = record { name = a; selectors = [] }

-- areas stand in the order of their names
abbrev pub named_lt : Area → Area → Bool
named_lt x y = octets_lt x.name y.name

-- one more area
abbrev pub with_area : List ℕ → List Area → List Area
with_area a l = inserted named_lt (empty_area a) l

-- no area of that name
abbrev pub without_area : List ℕ → List Area → List Area
without_area a l = filter (λ x. not (is_named a x)) l

-- the area, with f of its selectors where it has the name
abbrev pub changed_by : List ℕ → (List Selector → List Selector) → Area → Area
changed_by a f x = if is_named a x then record { name = x.name; selectors = f x.selectors } else x

-- the selectors with one more, in its place
abbrev pub with_one : Selector → List Selector → List Selector
with_one s xs = inserted selector_lt s xs

-- the selector stands in its place in the area of that name
abbrev pub with_selector : List ℕ → Selector → List Area → List Area
with_selector a s l = map (changed_by a (with_one s)) l

-- the selectors but for the one
abbrev pub without : Selector → List Selector → List Selector
without s xs = filter (λ t. not (selector_eq t s)) xs

-- the selector is not in the area of that name
abbrev pub without_selector : List ℕ → Selector → List Area → List Area
without_selector a s l = map (changed_by a (without s)) l

-- what always holds of the areas
pub record IsSound (l : List Area) : Type 0 where
  pub ascending : is_ascending named_lt l ≡ true
  pub few : length l ≤ 4096
  pub ordered : (a : List ℕ) → is_ascending selector_lt (selectors_of l a) ≡ true
  pub short : (a : List ℕ) → length (selectors_of l a) ≤ 4096
