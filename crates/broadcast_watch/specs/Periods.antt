-- For how long an emergency message is broadcast by its Warning Period (3GPP TS 48.049, 8.2.25).
use Rattle.std.specs.Prelude.{ℕ, ◌+◌, ◌-◌, ◌*◌, nat_eq, nat_le, Option, Some, None, if◌then◌else◌}

-- 1 to 10 are seconds, 11 to 20 are 12 to 30 seconds in steps of two, 21 to 38 are 35 to 120 in steps of five; 0 is without end, and
-- the others are no codes
abbrev pub seconds_of : ℕ → Option ℕ
seconds_of code =
    if nat_eq code 0 then None
    else (if nat_le code 10 then Some code
    else (if nat_le code 20 then Some (10 + 2 * (code - 10))
    else (if nat_le code 38 then Some (30 + 5 * (code - 20)) else None)))

-- when so many seconds after that are over, where they are
abbrev pub over_after : ℕ → ℕ → ℕ → Option ℕ
over_after from seconds now = if nat_le (from + seconds) now then Some (from + seconds) else None

-- since when the message is over that came on air at that time
abbrev pub over_since : ℕ → ℕ → ℕ → Option ℕ
over_since code from now = elim (seconds_of code) [ None ↦ None | Some seconds ↦ over_after from seconds now ]
