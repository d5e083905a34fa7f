-- Which word was meant by another one.
use Rattle.std.specs.Prelude.{ℕ, ◌+◌, ◌-◌, ◌*◌, max, nat_le, Bool, ◌==◌, ◌&&◌, ◌||◌, List, [], ◌∷◌, length, drop, map, reverse, if◌then◌else◌}
use Rattle.std.specs.List.{filter}

-- a capital letter, a small one, a digit
abbrev pub is_capital : ℕ → Bool
is_capital x = nat_le 65 x && nat_le x 90

abbrev pub is_small : ℕ → Bool
is_small x = nat_le 97 x && nat_le x 122

abbrev pub is_letter : ℕ → Bool
is_letter x = is_capital x || (is_small x || (nat_le 48 x && nat_le x 57))

-- the small letter of a capital one
abbrev pub small : ℕ → ℕ
small x = if is_capital x then x + 32 else x

-- what counts of a word: its letters and digits, whether they are small or not
abbrev pub letters_in : List ℕ → List ℕ
letters_in word = map small (filter is_letter word)

-- with how many of the same two words begin
abbrev pub same_front : List ℕ → List ℕ → ℕ
same_front [] other = 0
same_front (x ∷ xs) [] = 0
same_front (x ∷ xs) (y ∷ ys) = if x == y then same_front xs ys + 1 else 0

-- how many of the longer one stand before the end that both have
abbrev pub before_end : List ℕ → List ℕ → ℕ
before_end xs ys = max (length xs) (length ys) - same_front (reverse xs) (reverse ys)

-- the same behind the front that both have: so many letters differ, were left out or put in, one behind the other
abbrev pub apart : List ℕ → List ℕ → ℕ
apart xs ys = before_end (drop (same_front xs ys) xs) (drop (same_front xs ys) ys)

-- more than two letters, or more than half of them, are too many, and stand as 3
abbrev pub is_near : List ℕ → List ℕ → Bool
is_near xs ys = nat_le (apart xs ys) 2 && nat_le (apart xs ys * 2) (max (length xs) (length ys))

abbrev pub distance_by : List ℕ → List ℕ → ℕ
distance_by xs ys = if is_near xs ys then apart xs ys else 3

-- how far a word is from another
abbrev pub distance : List ℕ → List ℕ → ℕ
distance word other = distance_by (letters_in word) (letters_in other)
