-- The order of numbers and of cells.
use Rattle.std.proofs.Common.{◌≡◌, ℕ, true, false, ◌||◌, ltb, nat_eq, arith}
use Rattle.std.proofs.lemmas.Bool.Decides.{nat_tests}
use Rattle.std.proofs.lemmas.Grind.{common_steps}
use Rattle.common.specs.Cell.{cell_eq, cell_lt}
use Rattle.common.specs.declared.cell.Cell.{Cell}

-- what comes before a cell comes before all that the cell comes before
pub cell_lt_follows : (x y z : Cell) → cell_lt x y ≡ true → cell_lt y z ≡ true → cell_lt x z ≡ true
cell_lt_follows x y z a b = grind (arith, nat_tests, common_steps)

-- of two cells one comes before the other
pub cell_lt_apart : (x y : Cell) → cell_eq y x ≡ false → (cell_lt y x || cell_lt x y) ≡ true
cell_lt_apart x y h = grind (arith, nat_tests, common_steps)

-- the order of numbers, in the words of sorting
pub ltb_follows : (x y z : ℕ) → ltb x y ≡ true → ltb y z ≡ true → ltb x z ≡ true
ltb_follows x y z a b = grind (arith, nat_tests, common_steps)

-- of two numbers one comes before the other
pub ltb_apart : (x y : ℕ) → nat_eq y x ≡ false → (ltb y x || ltb x y) ≡ true
ltb_apart x y h = grind (arith, nat_tests, common_steps)

-- what comes after a thing is another
pub ltb_other : (b x y : ℕ) → nat_eq x b ≡ true → ltb x y ≡ true → nat_eq y b ≡ false
ltb_other b x y e h = grind (arith, nat_tests, common_steps)

-- what comes after a cell is another
pub cell_lt_other : (c x y : Cell) → cell_eq x c ≡ true → cell_lt x y ≡ true → cell_eq y c ≡ false
cell_lt_other c x y e h = grind (arith, nat_tests, common_steps)
