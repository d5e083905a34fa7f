-- What is said of cells: where an order was refused, which are down, and which broadcast again.
use Rattle.std.specs.Prelude.{ℕ, ◌-◌, ◌==◌, Bool, List, [], ◌∷◌, ◌++◌, codes, decimal, drop, if◌then◌else◌, length, take}
use Rattle.std.specs.List.{flat_map}
use Rattle.common.specs.declared.cell.Cell.{Cell}
use Rattle.server_errors.specs.declared.refused_cell.RefusedCell.{RefusedCell}

-- a cell: its location area and its identity there
abbrev pub cell_text : Cell → List ℕ
cell_text c = decimal c.lac ++ (codes " " ++ decimal c.ci)

-- a cell with the cause for which an order was refused there, as its number and its name (TS 48.049, 8.2.13)
abbrev pub refused_text : RefusedCell → List ℕ
refused_text r = cell_text r.cell ++ (codes " (" ++ (decimal r.cause ++ (codes " " ++ (r.name.now ++ codes ")"))))

-- one more of a list
abbrev pub next_cell : Cell → List ℕ
next_cell c = codes ", " ++ cell_text c

abbrev pub next_refused : RefusedCell → List ℕ
next_refused r = codes ", " ++ refused_text r

-- a list, with commas
abbrev pub joined_cells : List Cell → List ℕ
joined_cells [] = []
joined_cells (c ∷ cells) = cell_text c ++ flat_map next_cell cells

abbrev pub joined_refused : List RefusedCell → List ℕ
joined_refused [] = []
joined_refused (r ∷ refused) = refused_text r ++ flat_map next_refused refused

-- how many more there are than are named
abbrev pub more_text : ℕ → List ℕ
more_text n = if n == 0 then [] else codes ", and " ++ (decimal n ++ codes " more")

-- cells: the first ten, and how many more
abbrev pub cells_text : List Cell → List ℕ
cells_text cells = joined_cells (take 10 cells) ++ more_text (length (drop 10 cells))

abbrev pub refused_cells_text : List RefusedCell → List ℕ
refused_cells_text refused = joined_refused (take 10 refused) ++ more_text (length (drop 10 refused))

-- an order was refused in those cells of a BSC, and is held back there
unfoldable pub refusal_with : List ℕ → List ℕ → ℕ → List ℕ
refusal_with order cells b = codes "refused: " ++ (order ++ (codes ", in " ++ (cells ++ (codes "; held back until retry " ++ decimal b))))

abbrev pub refusal_text : List ℕ → List RefusedCell → ℕ → List ℕ
refusal_text order refused b = refusal_with order (refused_cells_text refused) b

-- for which warnings: emergency warnings, or texts
abbrev pub kind_text : Bool → List ℕ
kind_text is_emergency = if is_emergency then codes "emergency warnings" else codes "texts"

-- cells are down
abbrev pub failure_text : Bool → List Cell → List ℕ
failure_text is_emergency cells = codes "cells down for " ++ (kind_text is_emergency ++ (codes " (FAILURE): " ++ cells_text cells))

-- what became of the messages of cells that broadcast again
abbrev pub kept_text : Bool → List ℕ
kept_text are_lost = if are_lost then codes "their messages are lost" else codes "their messages are kept"

-- cells broadcast again
abbrev pub restart_text : Bool → Bool → List Cell → List ℕ
restart_text is_emergency are_lost cells =
    codes "cells broadcast again for " ++ (kind_text is_emergency ++ (codes " (RESTART), " ++ (kept_text are_lost ++ (codes ": " ++ cells_text cells))))
