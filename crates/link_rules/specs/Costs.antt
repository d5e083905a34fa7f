-- What a report costs.
use Rattle.std.specs.Prelude.{ℕ, ◌+◌, ◌-◌, ◌*◌, ◌/◌, ◌^◌, Bool, ◌||◌, Option, Some, None, min, nat_le}
use Rattle.link_rules.specs.declared.cost.Cost.{Cost}

-- up to the greatest number of 64 bits
abbrev pub counted : ℕ → ℕ
counted n = min n (2 ^ 64 - 1)

-- how many of the BSC's cells a report may bear on that names so many, or any
abbrev pub named_of : Option ℕ → ℕ → ℕ
named_of None cells = cells
named_of (Some named) cells = min named cells

-- a line for each of these cells, and one for each warning there; what is kept of it are its octets and these cells
abbrev pub cost_of : ℕ → Option ℕ → ℕ → ℕ → Cost
cost_of octets named cells warnings = record {
  octets = octets;
  lines = counted (named_of named cells * counted (warnings + 1));
  kept = counted (octets + named_of named cells);
}

-- 16,384 octets or 2,000 lines and more are heavy
abbrev pub is_heavy : Cost → Bool
is_heavy c = nat_le 16384 c.octets || nat_le 2000 c.lines

-- a millisecond for each 10,000 lines, and 50 at most, are left to others after it
abbrev pub pause_of : Cost → ℕ
pause_of c = min (c.lines / 10000) 50

-- what is kept of an order of so many octets and cells, in octets of a report: six for a cell, and one for four octets
abbrev pub kept_of_order : ℕ → ℕ → ℕ
kept_of_order octets cells = counted (counted (cells * 6) + octets / 4)
