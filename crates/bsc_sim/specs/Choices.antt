-- What is chosen for some cells.
use Rattle.std.specs.Prelude.{ℕ, List, Option}
use Rattle.std.specs.Map.{lookup}
use Rattle.cbsp_ie.specs.declared.cause.Cause.{Cause}
use Rattle.common.specs.Cell.{cell_eq}
use Rattle.common.specs.declared.cell.Cell.{Cell}

-- causes with which cells fail, and how often a message was broadcast in cells
pub record Chosen : Type 0 where
  pub causes : List (Cell × Cause)
  pub counts : List (Cell × ℕ)

-- the cause of the first pair of the cell, if there is one
abbrev pub cause_of : Chosen → Cell → Option Cause
cause_of chosen c = lookup (cell_eq c) chosen.causes

-- the number of the first pair of the cell, if there is one
abbrev pub count_of : Chosen → Cell → Option ℕ
count_of chosen c = lookup (cell_eq c) chosen.counts
