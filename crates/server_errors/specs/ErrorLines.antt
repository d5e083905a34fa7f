-- The lines of standard error.
use Rattle.std.specs.Prelude.{ℕ, ◌+◌, List, [], ◌∷◌, ◌++◌, Option, Some, None, codes, decimal}
use Rattle.server_errors.specs.declared.level.Level.{Level}
use Rattle.server_errors.specs.declared.level.Level.TheVariants as level

-- the time, and the space after it; nothing where it isn't known
abbrev pub in_front_of_line : Option (List ℕ) → List ℕ
in_front_of_line None = []
in_front_of_line (Some time) = time ++ codes " "

-- a line: the time, `cbc: `, what is said, and the end of the line
abbrev pub line_text : Option (List ℕ) → List ℕ → List ℕ
line_text time what = in_front_of_line time ++ codes "cbc: " ++ what ++ 10 ∷ []

-- what is said of a BSC
abbrev pub bsc_text : ℕ → List ℕ → List ℕ
bsc_text b what = codes "BSC " ++ decimal b ++ codes ": " ++ what

-- what is said of a link of a BSC, which came from that address
abbrev pub link_text : ℕ → List ℕ → List ℕ → List ℕ
link_text b peer what = codes "BSC " ++ decimal b ++ codes " (" ++ peer ++ codes "): " ++ what

-- the number of a level in a system log (RFC 5424, 6.2.1)
abbrev pub level_number : Level → ℕ
level_number level.Error = 3
level_number level.Warning = 4
level_number level.Notice = 5
level_number level.Info = 6

-- a line that a system log is to read, which takes its level off: the level in angle brackets, and the line
abbrev pub marked : Level → List ℕ → List ℕ
marked l line = 60 ∷ (48 + level_number l) ∷ 62 ∷ line
