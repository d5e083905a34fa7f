-- Areas, their selectors, and the cells that they cover.
use Rattle.std.specs.Prelude.{ℕ, Bool, true, false, ◌&&◌, ◌||◌, List, Option, Some, None, bytes_eq, if◌then◌else◌}
use Rattle.std.specs.List.{list_any}
use Rattle.common.specs.declared.cell.Cell.{Cell}
use Rattle.centre_events.specs.Past.{Past, latest, by_edit, named}
use Rattle.common.specs.Sums.{count_of}
use Rattle.areas.specs.Selector.{selector_eq}
use Rattle.areas.specs.declared.selector.Selector.{Selector}
use Rattle.areas.specs.declared.selector.Selector.TheVariants as selector
use Rattle.coverage_plan.specs.declared.edit.Edit.{Edit}
use Rattle.coverage_plan.specs.declared.edit.Edit.TheVariants.{AddArea, DropArea, Put, Cut}

-- whether the edit makes the area, or drops it
abbrev pub area_mark : List ℕ → Edit → Option Bool
area_mark a (AddArea other) = if bytes_eq other a then Some true else None
area_mark a (DropArea other) = if bytes_eq other a then Some false else None
area_mark a other = None

-- the area is there
abbrev pub is_area : Past → List ℕ → Bool
is_area past a = latest (λ e before. by_edit (area_mark a) e.event) (λ base. base.is_area a) past

-- the area that the edit makes
abbrev pub added_area : Edit → Option (List ℕ)
added_area (AddArea a) = Some a
added_area other = None

-- every area that was ever made, each once
abbrev pub areas : Past → List (List ℕ)
areas past = named bytes_eq added_area (λ base. base.areas) past

-- how many areas there are
abbrev pub area_count : Past → ℕ
area_count past = count_of (is_area past) (areas past)

-- a new area has no selector, nor has one that is dropped; one that is put is there until it is cut
abbrev pub selector_mark : List ℕ → Selector → Edit → Option Bool
selector_mark a s (AddArea other) = if bytes_eq other a then Some false else None
selector_mark a s (DropArea other) = if bytes_eq other a then Some false else None
selector_mark a s (Put other t) = if bytes_eq other a && selector_eq t s then Some true else None
selector_mark a s (Cut other t) = if bytes_eq other a && selector_eq t s then Some false else None
selector_mark a s other = None

-- the area has the selector
abbrev pub has_selector : Past → List ℕ → Selector → Bool
has_selector past a s = latest (λ e before. by_edit (selector_mark a s) e.event) (λ base. base.has_selector a s) past

-- the selector that the edit puts into the area
abbrev pub put_selector : List ℕ → Edit → Option Selector
put_selector a (Put other s) = if bytes_eq other a then Some s else None
put_selector a other = None

-- every selector that was ever put into the area, each once
abbrev pub selectors : Past → List ℕ → List Selector
selectors past a = named selector_eq (put_selector a) (λ base. base.selectors a) past

-- how many selectors the area has
abbrev pub selector_count : Past → List ℕ → ℕ
selector_count past a = count_of (has_selector past a) (selectors past a)

-- one of the area's selectors is the cell or its location area
abbrev pub covers : Past → List ℕ → Cell → Bool
covers past a c = has_selector past a (selector.Cell c) || has_selector past a (selector.Lac c.lac)

-- one of the areas covers the cell
abbrev pub is_covered : Past → List (List ℕ) → Cell → Bool
is_covered past names c = list_any (λ a. covers past a c) names
