-- How lines are answered that are answered together.
use Rattle.std.specs.Prelude.{◌≡◌, ◌++◌, ℕ, List, ⊤, Option, Some, None}

-- a writer held `before`, and the answers `gathered` were still to be written; now it holds `after`, and `left` are: what was to be
-- told is as it was, and the text behind it
abbrev pub IsTold : Option (List ℕ) → List ℕ → Option (List ℕ) → List ℕ → List ℕ → Type 0
IsTold None gathered after left text = ⊤
IsTold (Some before) gathered None left text = ⊥
IsTold (Some before) gathered (Some after) left text = after ++ left ≡ (before ++ gathered) ++ text
