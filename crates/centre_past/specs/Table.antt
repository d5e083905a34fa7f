-- What a BSC has reported: each of its keys that is on air, or may be, by cell, message identifier and serial number.
use Rattle.std.specs.Prelude.{ℕ, Bool, ◌&&◌, ◌||◌, List, [], ◌∷◌, ltb, if◌then◌else◌}
use Rattle.std.specs.List.{flat_map}
use Rattle.common.specs.Cell.{cell_eq, cell_lt}
use Rattle.common.specs.declared.cell.Cell.{Cell}
use Rattle.warning_book.specs.declared.version.Version.{Version}
use Rattle.warning_book.specs.declared.warning.Warning.{Warning}
use Rattle.centre_events.specs.Places.{cells}
use Rattle.centre_events.specs.Past.{Past}
use Rattle.centre_events.specs.Presence.{presence}
use Rattle.mirror.specs.Seen.{is_absent}
use Rattle.common.specs.Sorting.{comes_before, sorted_by}
use Rattle.centre_events.specs.Warnings.{warnings_of}
use Rattle.mirror.specs.declared.presence.Presence.{Presence}
use Rattle.centre_past.specs.declared.reported.reported_key.ReportedKey.{ReportedKey}

-- the key of that presence, unless it is absent
abbrev pub key_if : Cell → ℕ → ℕ → Presence → List ReportedKey
key_if c m s p = if is_absent p then [] else record { cell = c; message_id = m; serial = s; presence = p } ∷ []

-- the key of a warning in a cell, of the version of that serial number
abbrev pub key_of : Past → ℕ → Warning → Cell → ℕ → List ReportedKey
key_of past b w c s = key_if c w.message_id s (presence past b c w.message_id s)

-- its keys in the cell, of each of its versions
abbrev pub keys_in : Past → ℕ → Warning → Cell → List ReportedKey
keys_in past b w c = flat_map (λ (v : Version). key_of past b w c v.serial) w.versions

-- the keys of a warning in these cells
abbrev pub keys_of : Past → ℕ → List Cell → Warning → List ReportedKey
keys_of past b cs w = flat_map (keys_in past b w) cs

-- the keys of all warnings in the book in these cells
abbrev pub keys_over : Past → ℕ → List Cell → List ReportedKey
keys_over past b cs = flat_map (keys_of past b cs) (warnings_of past)

-- by cell, message identifier and serial number
abbrev pub key_lt : ReportedKey → ReportedKey → Bool
key_lt x y = cell_lt x.cell y.cell || (cell_eq x.cell y.cell && comes_before x.message_id y.message_id (ltb x.serial y.serial))

-- the keys of all warnings in the book, in order
abbrev pub table : Past → ℕ → List ReportedKey
table past b = sorted_by key_lt (keys_over past b (cells past))
