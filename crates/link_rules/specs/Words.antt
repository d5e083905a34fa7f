-- The lines of a text, and the words of a line.
use Rattle.std.specs.Prelude.{ℕ, ◌==◌, Bool, true, false, ◌||◌, not, List, [], ◌∷◌, if◌then◌else◌}
use Rattle.std.specs.List.{filter}

-- the octet stands in front of the first part
abbrev pub in_front : ℕ → List (List ℕ) → List (List ℕ)
in_front x [] = (x ∷ []) ∷ []
in_front x (part ∷ parts) = (x ∷ part) ∷ parts

-- what stands between the octets that pass the test; a part may be empty
abbrev pub parts_by : (ℕ → Bool) → List ℕ → List (List ℕ)
parts_by test [] = [] ∷ []
parts_by test (x ∷ xs) = if test x then [] ∷ parts_by test xs else in_front x (parts_by test xs)

-- a line feed
abbrev pub is_end : ℕ → Bool
is_end x = x == 10

-- a space, a tab or a carriage return
abbrev pub is_blank : ℕ → Bool
is_blank x = x == 32 || x == 9 || x == 13

abbrev pub is_empty : List ℕ → Bool
is_empty [] = true
is_empty (x ∷ xs) = false

-- the lines of a text: a line ends at a line feed, or where the text does
abbrev pub lines_of : List ℕ → List (List ℕ)
lines_of text = parts_by is_end text

-- the words of a line, between blanks
abbrev pub words_of : List ℕ → List (List ℕ)
words_of line = filter (λ part. not (is_empty part)) (parts_by is_blank line)
