-- The lines of a file. Each ends at 0A.
use Rattle.std.specs.Prelude.{◌≡◌, ℕ, ◌==◌, ◌≤◌, Bool, true, false, not, All, List, [], ◌∷◌, ◌++◌, length, take}
use Rattle.std.specs.List.{AllByRecursion, filter, flat_map}

-- the most octets that a line may have, without its end
abbrev pub longest_line : ℕ
longest_line = 600000

-- none of the octets ends a line
abbrev pub HasNoEnd : List ℕ → Type 0
HasNoEnd octets = All (λ x. (x == 10) ≡ false) octets

-- what can stand in a file as one line
abbrev pub IsLine : List ℕ → Type 0
IsLine octets = HasNoEnd octets × (length octets ≤ longest_line)

-- a line whose first octet is `#`, which is 35, is a comment
abbrev pub is_comment : List ℕ → Bool
is_comment [] = false
is_comment (x ∷ xs) = x == 35

-- the lines that are no comments
abbrev pub without_comments : List (List ℕ) → List (List ℕ)
without_comments lines = filter (λ line. not (is_comment line)) lines

-- what can stand in a file as a comment
abbrev pub IsCommentLine : List ℕ → Type 0
IsCommentLine octets = IsLine octets × (is_comment octets ≡ true)

-- what can stand there as the line of an entry
abbrev pub IsEntryLine : List ℕ → Type 0
IsEntryLine octets = IsLine octets × (is_comment octets ≡ false)

-- a line in the file
abbrev pub line_octets : List ℕ → List ℕ
line_octets line = line ++ 10 ∷ []

-- lines in the file, one after another
abbrev pub lines_octets : List (List ℕ) → List ℕ
lines_octets lines = flat_map line_octets lines

-- the octets are the lines, and then a rest in which no line ends
pub record IsCut (octets : List ℕ) (lines : List (List ℕ)) (rest : List ℕ) : Type 0 where
  pub whole : octets ≡ lines_octets lines ++ rest
  pub each : AllByRecursion HasNoEnd lines
  pub partial : HasNoEnd rest

-- octets have one cut
abbrev pub OneCut : Type 0
OneCut = (octets : List ℕ) (xs ys : List (List ℕ)) (r t : List ℕ) → IsCut octets xs r → IsCut octets ys t → (xs ≡ ys) × (r ≡ t)

-- lines, one after another, are cut into these lines
abbrev pub LinesAreCut : Type 0
LinesAreCut = (lines : List (List ℕ)) → AllByRecursion HasNoEnd lines → IsCut (lines_octets lines) lines []

-- of a line that is too long so much is kept as shows that
unfoldable pub kept_of : List ℕ → List ℕ
kept_of line = take 600001 line
