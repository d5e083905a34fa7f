-- The numbers that a board keeps.
use Rattle.std.specs.Prelude.{◌≡◌, ℕ, List, [], None, bytes_eq, nat_eq, unwrap_or}
use Rattle.std.specs.Map.{lookup}
use Rattle.coverage_board.specs.Numbers.{zero_numbers}
use Rattle.coverage_board.specs.declared.numbers.Numbers.{Numbers}

-- the numbers of a warning, and those of its areas by name
pub record WarningNumbers : Type 0 where
  pub total : Numbers
  pub areas : List (List ℕ × Numbers)

-- nothing is counted for the warning
abbrev pub nothing : WarningNumbers
nothing = record { total = zero_numbers; areas = [] }

-- the numbers of the area of that name
abbrev pub area_in : List (List ℕ × Numbers) → List ℕ → Numbers
area_in areas a = unwrap_or (lookup (bytes_eq a) areas) zero_numbers

-- the numbers of the warning of that number, from a board's entries
abbrev pub row_of : List (ℕ × WarningNumbers) → ℕ → WarningNumbers
row_of board w = unwrap_or (lookup (nat_eq w) board) nothing

-- the numbers of the warning of that number
abbrev pub total_of : List (ℕ × WarningNumbers) → ℕ → Numbers
total_of board w = (row_of board w).total

-- the numbers of the warning of that number and the area of that name
abbrev pub area_of : List (ℕ × WarningNumbers) → ℕ → List ℕ → Numbers
area_of board w a = area_in (row_of board w).areas a

-- an area all of whose numbers are 0 has no entry
abbrev pub KeepsNoZeroArea : List (List ℕ × Numbers) → Type 0
KeepsNoZeroArea areas = (a : List ℕ) → area_in areas a ≡ zero_numbers → lookup (bytes_eq a) areas ≡ None

-- nothing is counted for the warning, nor for any of its areas
abbrev pub CountsNothing : WarningNumbers → Type 0
CountsNothing row = (row.total ≡ zero_numbers) × ((a : List ℕ) → area_in row.areas a ≡ zero_numbers)

-- a warning for which nothing is counted has no row
abbrev pub KeepsNoZeroRow : List (ℕ × WarningNumbers) → Type 0
KeepsNoZeroRow board = (w : ℕ) → CountsNothing (row_of board w) → lookup (nat_eq w) board ≡ None
