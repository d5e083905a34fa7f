-- A time in UTC, as RFC 3339 writes it: `2026-11-27T19:53:45Z`.
use Rattle.std.specs.Prelude.{◌≡◌, ℕ, ◌*◌, ◌++◌, List, [], ◌∷◌, None, false, pos}
use Rattle.jiff_core.specs.DateTime.{civil_nanos}
use Rattle.jiff_core.specs.declared.civil.datetime.DateTime.{DateTime}
use Rattle.jiff_fmt.specs.Text.{datetime_text}

-- the second after 1970-01-01T00:00:00Z with which the year 10000 begins, for a clock 26 hours behind UTC
abbrev pub end_of_times : ℕ
end_of_times = 253402207201

-- the text is that of the date and the time on which the second begins, with `T`, which is 84, between them and `Z`, which is 90,
-- after them
abbrev pub IsUtcText : ℕ → List ℕ → Type 0
IsUtcText second text = (dt : DateTime) × (civil_nanos dt ≡ pos (second * 1000000000)) × (text ≡ datetime_text false 84 None dt ++ 90 ∷ [])
