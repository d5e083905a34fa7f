-- In which cells the number of broadcasts of one message at one BSC doesn't rise.
use Rattle.std.specs.Prelude.{ℕ, ◌-◌, Bool, false, ◌||◌, not, List, [], ◌∷◌, ◌++◌, Option, Some, None, find, ltb, nat_eq, if◌then◌else◌}
use Rattle.std.specs.List.{filter, flat_map, list_any}
use Rattle.common.specs.Cell.{cell_eq, cell_lt}
use Rattle.common.specs.declared.cell.Cell.{Cell}
use Rattle.broadcast_watch.specs.declared.counted.Counted.{Counted}
use Rattle.broadcast_watch.specs.declared.spell.Spell.{Spell}

-- the spell is of that cell
abbrev pub is_of_cell : Cell → Spell → Bool
is_of_cell c s = cell_eq s.cell c

-- a number that the reply before didn't give stands since now
abbrev pub first_spell : ℕ → Cell → ℕ → Spell
first_spell now c n = record { cell = c; count = n; since = now; is_silent = false }

-- one that it gave stands for longer; once it has stood for more than the limit, the cell is silent
abbrev pub longer_spell : ℕ → ℕ → Cell → Spell → Spell
longer_spell limit now c s = record { cell = c; count = s.count; since = s.since; is_silent = ltb limit (now - s.since) }

-- the number that a reply gives of a cell, by the spell that there was
abbrev pub next_spell : ℕ → ℕ → Cell → ℕ → Option Spell → Spell
next_spell limit now c n None = first_spell now c n
next_spell limit now c n (Some s) = if nat_eq s.count n then longer_spell limit now c s else first_spell now c n

-- a number that is judged has a spell; where none is, what was known of the cell is forgotten
abbrev pub spells_with : ℕ → ℕ → List Spell → Cell → Option ℕ → List Spell
spells_with limit now old c None = []
spells_with limit now old c (Some n) = next_spell limit now c n (find (is_of_cell c) old) ∷ []

-- the spell of a cell in a reply
abbrev pub spells_of : ℕ → ℕ → List Spell → Counted → List Spell
spells_of limit now old k = spells_with limit now old k.cell k.count

-- the spell is of a cell before the first one of the query, or behind the last one
abbrev pub is_outside : Cell → Cell → Spell → Bool
is_outside first last s = cell_lt s.cell first || cell_lt last s.cell

-- all spells after a reply to a query for the cells from the first to the last: of the others nothing was asked
abbrev pub spells_after : ℕ → ℕ → Cell → Cell → List Counted → List Spell → List Spell
spells_after limit now first last counted old =
    filter (λ s. is_outside first last s) old ++ flat_map (spells_of limit now old) counted

-- the spell is of none of these cells
abbrev pub is_elsewhere : List Cell → Spell → Bool
is_elsewhere cells s = not (list_any (cell_eq s.cell) cells)

-- the cell of the spell is silent
abbrev pub is_silent : Spell → Bool
is_silent s = s.is_silent
