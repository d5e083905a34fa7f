-- The words of a line: its longest runs of octets other than the space.
use Rattle.std.specs.Prelude.{ℕ, ◌==◌, Bool, false, not, List, [], ◌∷◌, length}
use Rattle.std.specs.List.{filter}
use Rattle.console_text.specs.Parts.{parts_of}

-- the parts that have octets
abbrev pub non_empty : List (List ℕ) → List (List ℕ)
non_empty parts = filter (λ part. not (length part == 0)) parts

-- those between spaces, which are 32
abbrev pub words_of : List ℕ → List (List ℕ)
words_of line = non_empty (parts_of 32 line)

-- a line whose first word begins with `#`, which is 35, asks for nothing
abbrev pub is_comment : List ℕ → Bool
is_comment [] = false
is_comment (x ∷ xs) = x == 35
