-- The lines of octets.
use Rattle.std.specs.Prelude.{ℕ, ◌-◌, ◌==◌, List, length, take, slice_index, if◌then◌else◌}
use Rattle.console_text.specs.Parts.{in_front, parts_of}

-- the most octets that a line may have
abbrev pub longest_line : ℕ
longest_line = 600000

-- one 0D at the end of a line is dropped
abbrev pub without_return : List ℕ → List ℕ
without_return line = if slice_index line (length line - 1) == 13 then take (length line - 1) line else line

-- the lines of the octets: each ends at 0A, or at the end
abbrev pub lines_of : List ℕ → List (List ℕ)
lines_of octets = parts_of 10 octets

-- the same, where the first has begun with some octets
abbrev pub lines_from : List ℕ → List ℕ → List (List ℕ)
lines_from begun octets = in_front begun (lines_of octets)
