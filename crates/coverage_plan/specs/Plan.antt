-- A plan: the register, the areas and the book of warnings, and what is wanted where.
use Rattle.std.specs.Prelude.{ℕ, Bool, ◌&&◌, List, [], Option, None, map, filter, if◌then◌else◌}
use Rattle.std.specs.List.{list_any, flat_map}
use Rattle.std.specs.Option.{is_some, option_and_then, option_to_list}
use Rattle.areas.specs.Areas.{covers}
use Rattle.areas.specs.declared.area.Area.{Area}
use Rattle.cell_register.specs.Register.{place_in, cells_of}
use Rattle.cell_register.specs.Register as registered
use Rattle.common.specs.declared.cell.Cell.{Cell}
use Rattle.warning_book.specs.Book.{areas_of, current_of, warning_of}
use Rattle.warning_book.specs.Book as issued
use Rattle.warning_book.specs.declared.warning.Warning.{Warning}
use Rattle.coverage_plan.specs.declared.plan_item.PlanItem.{PlanItem}

-- the BSCs with their cells, the areas, and the warnings
pub record State : Type 0 where
  pub register : registered.State
  pub areas : List Area
  pub book : issued.State

-- no BSC, no area and no warning
abbrev pub empty : State
empty = record { register = registered.empty; areas = []; book = issued.empty }

-- the BSC at which the cell is registered
abbrev pub place : State → Cell → Option ℕ
place st c = place_in st.register c

-- the areas of the warning that cover the cell, in the warning's order
abbrev pub covering : State → Cell → ℕ → List (List ℕ)
covering st c n = filter (λ a. covers st.areas a c) (areas_of n st.book.warnings)

-- one of the names is that of an area that covers the cell
abbrev pub is_covered : List Area → List (List ℕ) → Cell → Bool
is_covered l names c = list_any (λ a. covers l a c) names

-- the warning is to be broadcast in the cell: it is active, and the cell is registered and in one of its areas
abbrev pub is_wanted : State → Cell → Warning → Bool
is_wanted st c w = w.active && (is_some (place st c) && is_covered st.areas w.areas c)

-- the serial number that is wanted of the warning in the cell: that of its current version
abbrev pub wanted_of : State → Cell → Warning → Option ℕ
wanted_of st c w = if is_wanted st c w then current_of w else None

-- the same of the warning of that number; none where there is no such warning
abbrev pub wanted : State → Cell → ℕ → Option ℕ
wanted st c n = option_and_then (wanted_of st c) (warning_of st.book n)

-- a message of the warning in the cell, with that serial number
abbrev pub item_of : Cell → Warning → ℕ → PlanItem
item_of c w s = record { cell = c; message_id = w.message_id; serial = s }

-- what is planned of the warning in the cell: one message, or none
abbrev pub items_of : State → Cell → Warning → List PlanItem
items_of st c w = map (item_of c w) (option_to_list (wanted_of st c w))

-- what is planned in the cell, in the order of the warnings
abbrev pub items_at : State → Cell → List PlanItem
items_at st c = flat_map (items_of st c) st.book.warnings

-- what is planned at the BSC, in the order of its cells
abbrev pub plan_of : State → ℕ → List PlanItem
plan_of st b = flat_map (items_at st) (cells_of st.register b)
