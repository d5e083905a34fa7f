-- The areas by their selectors: which have a selector, and what an edit makes of that.
use Rattle.std.specs.Prelude.{ℕ, ◌≡◌, Bool, ◌&&◌, ◌||◌, not, List, [], Some, None, bytes_eq}
use Rattle.std.specs.BTreeMap.{is_at}
use Rattle.std.specs.List.{list_any}
use Rattle.std.specs.Map.{lookup}
use Rattle.std.specs.Option.{option_cmp, unwrap_or}
use Rattle.std.specs.Ordering.{nat_cmp, ordering_then}
use Rattle.std.specs.declared.cmp.Ordering.{Ordering}
use Rattle.areas.specs.Areas.{is_among, has_selector, IsSound}
use Rattle.areas.specs.Selector.{selector_eq}
use Rattle.areas.specs.declared.area.Area.{Area}
use Rattle.areas.specs.declared.selector.Selector.{Selector}
use Rattle.areas.specs.declared.selector.Selector.TheVariants.{Cell, Lac}
use Rattle.areas.specs.declared.selector_key.SelectorKey.{SelectorKey}

-- the location area of a selector, and the identity of its cell, if it is one
abbrev pub key_of : Selector → SelectorKey
key_of (Cell c) = record { lac = c.lac; ci = Some c.ci }
key_of (Lac l) = record { lac = l; ci = None }

-- the order of keys, as a map compares them
abbrev pub key_cmp : SelectorKey → SelectorKey → Ordering
key_cmp x y = ordering_then (nat_cmp x.lac y.lac) (option_cmp nat_cmp x.ci y.ci)

-- the name is one of them
abbrev pub has_name : List ℕ → List (List ℕ) → Bool
has_name a names = list_any (λ b. bytes_eq b a) names

-- the names that are kept for the selector
abbrev pub names_at : List (SelectorKey × List (List ℕ)) → Selector → List (List ℕ)
names_at holders s = unwrap_or (lookup (is_at (key_cmp (key_of s))) holders) []

-- the area of that name is one of those that have the selector
abbrev pub holds : List (SelectorKey × List (List ℕ)) → Selector → List ℕ → Bool
holds holders s a = has_name a (names_at holders s)

-- what it was, and the area has the selector
abbrev pub IsWithHolder : List (SelectorKey × List (List ℕ)) → List (SelectorKey × List (List ℕ)) → Selector → List ℕ → Type 0
IsWithHolder old new s a = (t : Selector) (b : List ℕ) → holds new t b ≡ ((selector_eq s t && bytes_eq a b) || holds old t b)

-- what it was, and the area does not have the selector
abbrev pub IsWithoutHolder : List (SelectorKey × List (List ℕ)) → List (SelectorKey × List (List ℕ)) → Selector → List ℕ → Type 0
IsWithoutHolder old new s a = (t : Selector) (b : List ℕ) → holds new t b ≡ (not (selector_eq s t && bytes_eq a b) && holds old t b)

-- what it was, and the area has none of the selectors
abbrev pub IsWithoutAll : List (SelectorKey × List (List ℕ)) → List (SelectorKey × List (List ℕ)) → List Selector → List ℕ → Type 0
IsWithoutAll old new selectors a = (t : Selector) (b : List ℕ) → holds new t b ≡ (not (is_among t selectors && bytes_eq a b) && holds old t b)

-- for each selector these are the areas that have it, and no others
abbrev pub IsIndex : List (SelectorKey × List (List ℕ)) → List Area → Type 0
IsIndex holders l = (s : Selector) (a : List ℕ) → holds holders s a ≡ has_selector l a s

-- what always holds of the areas and of their index
pub record IsIndexed (l : List Area) (holders : List (SelectorKey × List (List ℕ))) : Type 0 where
  pub sound : IsSound l
  pub index : IsIndex holders l
