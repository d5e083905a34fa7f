-- Numbers as sums of what the lines add to them.
use Rattle.std.specs.Prelude.{◌≡◌, ℕ, ◌+◌, Bool, true, false, List, [], ◌∷◌, if◌then◌else◌, nat_eq}
use Rattle.std.specs.List.{list_any, list_all}
use Rattle.common.specs.Order.{each_once}
use Rattle.coverage_board.specs.Numbers.{zero_numbers, added}
use Rattle.coverage_board.specs.declared.numbers.Numbers.{Numbers}

-- the sum of what each adds
abbrev pub numbers_of : {A : Type 0} → (A → Numbers) → List A → Numbers
numbers_of f [] = zero_numbers
numbers_of f (x ∷ xs) = added (f x) (numbers_of f xs)

-- it is one of the five numbers: of a sum it gives the sum
pub record IsNumber (h : Numbers → ℕ) : Type 0 where
  pub zero : h zero_numbers ≡ 0
  pub plus : (n p : Numbers) → h (added n p) ≡ h n + h p

-- the numbers are the sum over some lines, each once and each passing the test; all others add nothing
pub record IsSum {A : Type 0} (same : A → A → Bool) (is_line : A → Bool) (f : A → Numbers) (n : Numbers) : Type 0 where
  pub lines : List A
  pub once : each_once same lines ≡ true
  pub all : list_all is_line lines ≡ true
  pub elsewhere : (x : A) → list_any (same x) lines ≡ false → f x ≡ zero_numbers
  pub sum : n ≡ numbers_of f lines

-- a part of the numbers of one warning, as a part of those of another: nothing, but for the same one
abbrev pub part_of : ℕ → ℕ → Numbers → Numbers
part_of w v p = if nat_eq w v then p else zero_numbers
