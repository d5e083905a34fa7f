-- For how long a console may be silent within a line.
use Rattle.std.specs.Prelude.{ℕ, ◌-◌, Bool, false, not, Option, None, Some, nat_lt}

-- a line has begun of which nothing came for so long
abbrev pub is_over : ℕ → ℕ → Option ℕ → Bool
is_over most now None = false
is_over most now (Some since) = not (nat_lt (now - since) most)
