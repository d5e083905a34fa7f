-- Whether a version of a warning is on air, or may be, as an update asks that takes its serial number again.
use Rattle.std.specs.Prelude.{ℕ, Bool, not, List, filter, nat_eq}
use Rattle.common.specs.declared.cell.Cell.{Cell}
use Rattle.mirror.specs.Line.{state_of}
use Rattle.mirror.specs.Order.{Slot}
use Rattle.mirror.specs.Seen.{is_absent}
use Rattle.mirror.specs.Table.{Table, line_at}
use Rattle.mirror.specs.declared.line.Line.{Line}

-- by the line, the version of that serial number is on air, or may be
abbrev pub is_present_in : ℕ → Line → Bool
is_present_in s line = not (is_absent (state_of line s).presence)

-- it is in the cell at the BSC
abbrev pub is_present_at : Table → ℕ → Cell → ℕ → ℕ → Bool
is_present_at t b c w s = is_present_in s (line_at t b c w)

-- the lines that are kept of the warning
abbrev pub lines_of : ℕ → Table → List (Slot × Line)
lines_of w t = filter (λ e. nat_eq w e.0.warning) t.lines
