-- The time of day.
use Rattle.std.specs.Prelude.{ℕ, ◌+◌, ◌/◌, ◌%◌, List, [], ◌∷◌, ◌++◌, codes}

-- two digits of a number below 100
abbrev pub two_digits : ℕ → List ℕ
two_digits n = (48 + n / 10) ∷ (48 + n % 10) ∷ []

-- the time of day, in UTC, of a second after 1970-01-01T00:00:00Z
unfoldable pub time_of_day : ℕ → List ℕ
time_of_day s = two_digits (s / 3600 % 24) ++ (codes ":" ++ (two_digits (s / 60 % 60) ++ (codes ":" ++ two_digits (s % 60))))
