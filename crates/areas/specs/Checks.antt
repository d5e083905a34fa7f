-- Why an edit is refused: the first cause that holds, in the order of the checks.
use Rattle.std.specs.Prelude.{ℕ, Bool, not, List, [], ◌∷◌, nat_le, length}
use Rattle.areas.specs.Areas.{has_area, has_selector, selectors_of}
use Rattle.areas.specs.Name.{is_name}
use Rattle.areas.specs.declared.area.Area.{Area}
use Rattle.areas.specs.declared.refusal.Limit.TheVariants as limit
use Rattle.areas.specs.declared.refusal.Refusal.{Refusal}
use Rattle.areas.specs.declared.refusal.Refusal.TheVariants.{BadName, AreaExists, NoSuchArea, SelectorThere, SelectorNotThere, Limit}
use Rattle.areas.specs.declared.selector.Selector.{Selector}

-- why no area of the name can be made: the name is not allowed, the area is there, or there are 4,096 areas
abbrev pub add_area_checks : List Area → List ℕ → List (Bool × Refusal)
add_area_checks l a = (not (is_name a), BadName) ∷ (has_area l a, AreaExists) ∷ (nat_le 4096 (length l), Limit limit.Areas) ∷ []

-- why the area cannot be taken away: it is not there
abbrev pub drop_area_checks : List Area → List ℕ → List (Bool × Refusal)
drop_area_checks l a = (not (has_area l a), NoSuchArea) ∷ []

-- why the selector cannot be put into the area: the area is not there, the selector is, or the area has 4,096 selectors
abbrev pub put_checks : List Area → List ℕ → Selector → List (Bool × Refusal)
put_checks l a s = (not (has_area l a), NoSuchArea) ∷ (has_selector l a s, SelectorThere) ∷ (nat_le 4096 (length (selectors_of l a)), Limit limit.Selectors) ∷ []

-- why the selector cannot be taken out of the area: the area is not there, or the selector is not
abbrev pub cut_checks : List Area → List ℕ → Selector → List (Bool × Refusal)
cut_checks l a s = (not (has_area l a), NoSuchArea) ∷ (not (has_selector l a s), SelectorNotThere) ∷ []
