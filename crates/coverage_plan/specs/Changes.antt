-- Which pairs of a cell and a warning change from one plan to another.
use Rattle.std.specs.Prelude.{◌≡◌, ℕ, Bool, true, false, ◌&&◌, ◌||◌, not, List, Option, Some, None, nat_eq, ltb, bytes_eq}
use Rattle.std.specs.Cmp.Lexicographic.{pointwise}
use Rattle.std.specs.List.{list_any}
use Rattle.std.specs.Option.{is_some}
use Rattle.common.specs.Cell.{cell_eq, cell_lt}
use Rattle.common.specs.Order.{is_ascending}
use Rattle.common.specs.declared.cell.Cell.{Cell}
use Rattle.warning_book.specs.Book.{is_there}
use Rattle.coverage_plan.specs.Plan.{State, place, covering, wanted}

-- there is a number on one side and none on the other, or another one
abbrev pub differ : Option ℕ → Option ℕ → Bool
differ None None = false
differ None (Some y) = true
differ (Some x) None = true
differ (Some x) (Some y) = not (nat_eq x y)

-- the lists are not of the same names in the same order
abbrev pub names_differ : List (List ℕ) → List (List ℕ) → Bool
names_differ xs ys = not (pointwise bytes_eq xs ys)

-- the cell is registered before or after, the warning is in the book before or after, and the cell's BSC, the wanted
-- serial number or the areas of the warning that cover the cell are not the same
abbrev pub is_changed : State → State → Cell → ℕ → Bool
is_changed old new c n =
    (is_some (place old c) || is_some (place new c)) && ((is_there old.book n || is_there new.book n) && (differ (place old c) (place new c) || (differ (wanted old c n) (wanted new c n) || names_differ (covering old c n) (covering new c n))))

-- pairs stand in the order of cells, and those of one cell in the order of warnings
abbrev pub pair_lt : Cell × ℕ → Cell × ℕ → Bool
pair_lt p q = cell_lt p.0 q.0 || (cell_eq p.0 q.0 && ltb p.1 q.1)

-- it is the pair of that cell and that warning
abbrev pub is_pair : Cell → ℕ → Cell × ℕ → Bool
is_pair c n p = cell_eq p.0 c && nat_eq p.1 n

-- the list has the pairs that pass the test, each once and in order, and no others
pub record ArePairs (test : Cell → ℕ → Bool) (pairs : List (Cell × ℕ)) : Type 0 where
  pub ordered : is_ascending pair_lt pairs ≡ true
  pub exact : (c : Cell) (n : ℕ) → list_any (is_pair c n) pairs ≡ test c n

-- the list has the pairs that change
abbrev pub Changes : State → State → List (Cell × ℕ) → Type 0
Changes old new pairs = ArePairs (is_changed old new) pairs
