-- Which numbers of broadcasts are judged, and how long one may stand still (TS 48.049, 8.2.10).
use Rattle.std.specs.Prelude.{ℕ, ◌*◌, Bool, ◌&&◌, not, List, nat_eq, nat_le, Option, Some, None, find, if◌then◌else◌}
use Rattle.cbsp_ie.specs.CellId.{names}
use Rattle.cbsp_ie.specs.declared.count_entry.CountEntry.{CountEntry}
use Rattle.common.specs.declared.cell.Cell.{Cell}

-- What a list says of a number.

-- the entry names the cell, and its Number of Broadcasts Info isn't 0
unfoldable pub is_marked : List ℕ → Cell → CountEntry → Bool
is_marked network c e = names network e.id c && not (nat_eq e.info 0)

-- the first such entry
abbrev pub first_marked : List ℕ → List CountEntry → Cell → Option CountEntry
first_marked network entries c = find (is_marked network c) entries

-- the info of such an entry, if there is one
abbrev pub info_in : Option CountEntry → ℕ
info_in None = 0
info_in (Some e) = e.info

-- the info of the cell in the list: another than 0, where one of the entries that name it has that
abbrev pub info_of : List ℕ → List CountEntry → Cell → ℕ
info_of network entries c = info_in (first_marked network entries c)

-- Which numbers are judged.

-- the message was broadcast as often as was asked; 0 asks for no end
abbrev pub has_reached : ℕ → ℕ → Bool
has_reached asked count = not (nat_eq asked 0) && nat_le asked count

-- the number should rise: the message has a period, the number is valid, isn't the greatest one, and hasn't reached what was asked
abbrev pub should_rise : ℕ → ℕ → ℕ → ℕ → Bool
should_rise period asked info count =
    not (nat_eq period 0) && (nat_eq info 0 && (not (nat_eq count 65535) && not (has_reached asked count)))

-- the number of a reply, where it is judged
abbrev pub judged : ℕ → ℕ → ℕ → Option ℕ → Option ℕ
judged period asked info None = None
judged period asked info (Some count) = if should_rise period asked info count then Some count else None

-- three repetition periods, in milliseconds: one unit is 1.883 seconds
abbrev pub silence_of : ℕ → ℕ
silence_of period = period * 1883 * 3

-- What is on air no more.

-- a RESTART of that Broadcast Message Type is of CBS, and its Recovery Indication says that data were lost (8.2.18, 8.2.24)
abbrev pub takes_off_air : ℕ → ℕ → Bool
takes_off_air kind recovery = nat_eq kind 0 && not (nat_eq recovery 0)
