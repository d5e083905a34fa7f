-- What a past says of a key, and of the line of a warning.
use Rattle.std.specs.Prelude.{◌≡◌, ℕ, List, Option, Some, None, find, map, nat_eq}
use Rattle.std.specs.List.{range_with_len}
use Rattle.common.specs.declared.cell.Cell.{Cell}
use Rattle.mirror.specs.Line.{blank}
use Rattle.mirror.specs.declared.key_state.KeyState.{KeyState}
use Rattle.mirror.specs.declared.line.Line.{Line}
use Rattle.serials.specs.Serials.{update_of}
use Rattle.warning_book.specs.declared.version.Version.{Version}
use Rattle.warning_book.specs.declared.warning.Warning.{Warning}
use Rattle.centre_events.specs.Counts.{count}
use Rattle.centre_events.specs.Past.{Past}
use Rattle.centre_events.specs.Presence.{presence, hold}

-- what the past says of one key
abbrev pub key_state : Past → ℕ → Cell → ℕ → ℕ → KeyState
key_state past b c m s = record { presence = presence past b c m s; hold = hold past b c m s; count = count past b c m s }

-- the version of that update number, if there is one
abbrev pub version_at : List Version → ℕ → Option Version
version_at versions u = find (λ v. nat_eq (update_of v.serial) u) versions

-- what it says of a version, if there is one
abbrev pub version_state : Past → ℕ → Cell → ℕ → Option Version → KeyState
version_state past b c m None = blank
version_state past b c m (Some v) = key_state past b c m v.serial

-- what it says of the versions of a warning in a cell of a BSC, by their update numbers
abbrev pub line_of : Past → ℕ → Cell → Warning → Line
line_of past b c w = record { states = map (λ u. version_state past b c w.message_id (version_at w.versions u)) (range_with_len 0 16) }

-- the line is the one that the past says, if the book has the warning
abbrev pub IsLineOf : Past → ℕ → Cell → Line → Option Warning → Type 0
IsLineOf past b c line None = Unit {0}
IsLineOf past b c line (Some w) = line ≡ line_of past b c w
