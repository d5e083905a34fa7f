-- The lines that were said last, as consoles are shown them.
use Rattle.std.specs.Prelude.{ℕ, ◌-◌, ◌==◌, List, [], ◌∷◌, ◌++◌, String, codes, decimal, drop, if◌then◌else◌, length, nat_lt, string_bytes}
use Rattle.std.specs.List.{flat_map}
use Rattle.server_errors.specs.Queues.{one_more}
use Rattle.server_errors.specs.declared.recent.Recent.{Recent}

-- a line that was said, with its end
abbrev pub said_line : {A : Type 0} → String A → List ℕ
said_line line = codes "said " ++ string_bytes line

-- what stands in place of lines that are held no more
abbrev pub unheld_text : ℕ → List ℕ
unheld_text n = if n == 0 then [] else codes "said " ++ (decimal n ++ codes " lines more\n")

-- the number of the last line that isn't held any more
abbrev pub before_held : Recent → ℕ
before_held r = r.count - length r.lines.items

-- what is shown of the lines behind that number
abbrev pub said_after : Recent → ℕ → List ℕ
said_after r place = unheld_text (before_held r - place) ++ flat_map said_line (drop (place - before_held r) r.lines.items)

-- the lines that stay as one more comes: all, or all but the first where there are a thousand
abbrev pub lines_staying : {A : Type 0} → List (String A) → List (String A)
lines_staying lines = if nat_lt (length lines) 1000 then lines else drop 1 lines
