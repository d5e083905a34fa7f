-- Numbers as an operator writes them: 1 to 10 decimal digits, within a range.
use Rattle.std.specs.Prelude.{ℕ, ◌+◌, ◌-◌, ◌*◌, nat_le, Bool, ◌&&◌, List, [], ◌∷◌, length, Option, Some, None, if◌then◌else◌}

-- a decimal digit
abbrev pub is_digit : ℕ → Bool
is_digit x = nat_le 48 x && nat_le x 57

-- the number that the digits write after those of n
abbrev pub decimal_from : ℕ → List ℕ → Option ℕ
decimal_from n [] = Some n
decimal_from n (x ∷ xs) = if is_digit x then decimal_from (n * 10 + (x - 48)) xs else None

-- the number that the word writes
abbrev pub number_of : List ℕ → Option ℕ
number_of word = if nat_le 1 (length word) && nat_le (length word) 10 then decimal_from 0 word else None

-- the number, if it is in the range
abbrev pub within : ℕ → ℕ → Option ℕ → Option ℕ
within low high None = None
within low high (Some n) = if nat_le low n && nat_le n high then Some n else None

-- the number of the word, if it is in the range
abbrev pub number_in : ℕ → ℕ → List ℕ → Option ℕ
number_in low high word = within low high (number_of word)
