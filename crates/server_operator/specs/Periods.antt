-- Which warnings have another repetition period at a BSC.
use Rattle.std.specs.Prelude.{ℕ, Bool, false, ◌&&◌, List, Option, Some, None, not, nat_eq}
use Rattle.std.specs.List.{list_any}
use Rattle.areas.specs.declared.selector.Selector.{Selector}
use Rattle.areas.specs.declared.selector.Selector.TheVariants as selector
use Rattle.centre_events.specs.declared.answer.Answer.{Answer}
use Rattle.centre_events.specs.declared.answer.Answer.TheVariants as answer
use Rattle.centre_events.specs.declared.event.Event.{Event}
use Rattle.centre_events.specs.declared.event.Event.TheVariants as event
use Rattle.centre_past.specs.declared.lists.cell_row.CellRow.{CellRow}
use Rattle.centre_past.specs.declared.lists.warning_row.WarningRow.{WarningRow}
use Rattle.common.specs.Cell.{cell_eq}
use Rattle.common.specs.declared.cell.Cell.{Cell}
use Rattle.coverage_plan.specs.declared.edit.Edit.{Edit as EditOf}
use Rattle.coverage_plan.specs.declared.edit.Edit.TheVariants as edit
use Rattle.warning_book.specs.declared.content.Content.{Content}
use Rattle.warning_book.specs.declared.content.Content.TheVariants as content

-- the warning that an edit brings into cells, or whose content it changes: one that is issued, updated or widened
abbrev pub edit_placed : EditOf → Answer → Option ℕ
edit_placed (edit.Issue notice areas) (answer.Issued warning serial) = Some warning
edit_placed (edit.Update warning content) given = Some warning
edit_placed (edit.Widen warning area) given = Some warning
edit_placed other given = None

-- no other event does that
abbrev pub placed_by : Event → Answer → Option ℕ
placed_by (event.Edit change) given = edit_placed change given
placed_by other given = None

-- the repetition period of a content with pages; an emergency message has none
abbrev pub period_of : Option Content → Option ℕ
period_of None = None
period_of (Some (content.Cbs c)) = Some c.period
period_of (Some (content.Emergency e)) = None

-- there is a period, and it is another one
abbrev pub is_other : ℕ → Option ℕ → Bool
is_other period None = false
is_other period (Some other) = not (nat_eq other period)

-- the selector is the cell, or its location area
abbrev pub selects : Cell → Selector → Bool
selects c (selector.Cell d) = cell_eq d c
selects c (selector.Lac lac) = nat_eq lac c.lac

-- one of the selectors selects it
abbrev pub is_selected : List Selector → CellRow → Bool
is_selected selectors row = list_any (selects row.cell) selectors

-- an area of these selectors covers one of the cells
abbrev pub reaches : List CellRow → List Selector → Bool
reaches cells selectors = list_any (is_selected selectors) cells

-- it is another warning that is active
abbrev pub is_rival : ℕ → WarningRow → Bool
is_rival warning row = row.is_active && not (nat_eq row.number warning)
