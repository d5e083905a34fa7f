-- The cells and the warnings on which an edit bears, and their pairs.
use Rattle.std.specs.Prelude.{◌≡◌, ℕ, Bool, true, ◌&&◌, ◌||◌, not, List, nat_eq, ltb, map}
use Rattle.std.specs.List.{list_any, flat_map}
use Rattle.std.specs.Option.{is_some}
use Rattle.areas.specs.Areas.{has_selector}
use Rattle.areas.specs.declared.area.Area.{Area}
use Rattle.areas.specs.declared.selector.Selector.{Selector}
use Rattle.areas.specs.declared.selector.Selector.TheVariants as selector
use Rattle.cell_register.specs.Register.{place_in}
use Rattle.cell_register.specs.Register as registered
use Rattle.common.specs.Cell.{cell_eq, cell_lt}
use Rattle.common.specs.Order.{is_ascending}
use Rattle.common.specs.declared.cell.Cell.{Cell}
use Rattle.warning_book.specs.Book.{is_there, names, warning_is}
use Rattle.warning_book.specs.Book as issued
use Rattle.coverage_plan.specs.Plan.{is_covered}

-- the list has the cells that pass the test, each once and in order, and no others
pub record AreCells (test : Cell → Bool) (cells : List Cell) : Type 0 where
  pub ordered : is_ascending cell_lt cells ≡ true
  pub exact : (c : Cell) → list_any (λ d. cell_eq d c) cells ≡ test c

-- the same of the numbers of warnings
pub record AreNumbers (test : ℕ → Bool) (numbers : List ℕ) : Type 0 where
  pub ordered : is_ascending ltb numbers ≡ true
  pub exact : (n : ℕ) → list_any (λ m. nat_eq m n) numbers ≡ test n

-- the cell is one of them
abbrev pub is_among : List Cell → Cell → Bool
is_among cells c = list_any (λ d. cell_eq d c) cells

-- the cells that pass the test have come to those that were there
abbrev pub AreAdded : (Cell → Bool) → List Cell → List Cell → Type 0
AreAdded test old new = (c : Cell) → is_among new c ≡ (test c || is_among old c)

-- the registered cells of these location areas are among the cells
abbrev pub AreThere : registered.State → List ℕ → List Cell → Type 0
AreThere r lacs cells = (c : Cell) → is_some (place_in r c) ≡ true → list_any (λ l. nat_eq l c.lac) lacs ≡ true → is_among cells c ≡ true

-- each warning with the cell
abbrev pub pairs_with : List ℕ → Cell → List (Cell × ℕ)
pairs_with numbers c = map (λ n. (c, n)) numbers

-- each of the cells with each of the warnings
abbrev pub pairs_of : List Cell → List ℕ → List (Cell × ℕ)
pairs_of cells numbers = flat_map (pairs_with numbers) cells

-- the cell is registered
abbrev pub is_registered : registered.State → Cell → Bool
is_registered r c = is_some (place_in r c)

-- the selector is the cell or its location area
abbrev pub is_named_by : Selector → Cell → Bool
is_named_by (selector.Cell d) c = cell_eq d c
is_named_by (selector.Lac lac) c = nat_eq lac c.lac

-- the other selector that names the cell
abbrev pub other_selector : Selector → Cell → Selector
other_selector (selector.Cell d) c = selector.Lac c.lac
other_selector (selector.Lac lac) c = selector.Cell c

-- whether the area covers the cell, which is registered, depends on this selector alone
abbrev pub is_only_by : registered.State → List Area → List ℕ → Selector → Cell → Bool
is_only_by r l a s c = is_registered r c && (is_named_by s c && not (has_selector l a (other_selector s c)))

-- the pair is of this cell and of a warning in the book
abbrev pub is_of_cell : Cell → issued.State → Cell → ℕ → Bool
is_of_cell d b c n = cell_eq d c && is_there b n

-- the pair is of a cell that only this selector puts into the area, and of a warning that names the area
abbrev pub is_of_selector : registered.State → List Area → issued.State → List ℕ → Selector → Cell → ℕ → Bool
is_of_selector r l b a s c n = is_only_by r l a s c && warning_is b n (names a)

-- the pair is of a registered cell in one of the areas, and of this warning
abbrev pub is_of_areas : registered.State → List Area → List (List ℕ) → ℕ → Cell → ℕ → Bool
is_of_areas r l areas m c n = (is_registered r c && is_covered l areas c) && nat_eq m n
