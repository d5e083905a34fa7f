-- When two selectors select the same, and the order in which an area's selectors are kept.
use Rattle.std.specs.Prelude.{ℕ, Bool, false, nat_eq, nat_le, ltb}
use Rattle.common.specs.Cell.{cell_eq, cell_lt}
use Rattle.areas.specs.declared.selector.Selector.{Selector}
use Rattle.areas.specs.declared.selector.Selector.TheVariants.{Cell, Lac}

-- the two select the same cells: they are one cell, or one location area
abbrev pub selector_eq : Selector → Selector → Bool
selector_eq (Cell c) (Cell d) = cell_eq c d
selector_eq (Lac l) (Lac k) = nat_eq l k
selector_eq x y = false

-- selectors stand by location area code; a whole location area comes before the cells in it, and these are in the order
-- of cells. So what an area selects of one location area stands together, and the whole location area first.
abbrev pub selector_lt : Selector → Selector → Bool
selector_lt (Cell c) (Cell d) = cell_lt c d
selector_lt (Cell c) (Lac k) = ltb c.lac k
selector_lt (Lac l) (Cell d) = nat_le l d.lac
selector_lt (Lac l) (Lac k) = ltb l k

-- the selector's location area: that of its cell, or the whole one
abbrev pub lac_of : Selector → ℕ
lac_of (Cell c) = c.lac
lac_of (Lac l) = l
