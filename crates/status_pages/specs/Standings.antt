-- How urgent a warning or a BSC is to somebody who looks.
use Rattle.std.specs.Prelude.{ℕ, Bool, true, false, ◌-◌, ◌/◌, ◌==◌, ◌&&◌, ◌||◌, not, nat_le, nat_lt, Option, Some, None, count_by, unwrap_or, if◌then◌else◌}
use Rattle.std.specs.Option.{is_some}
use Rattle.centre_past.specs.declared.lists.flight_kind.FlightKind.{FlightKind}
use Rattle.centre_past.specs.declared.lists.flight_kind.FlightKind.TheVariants.{Write, Replace, Kill, Query}
use Rattle.centre_past.specs.declared.lists.flight_row.FlightRow.{FlightRow}
use Rattle.centre_past.specs.declared.lists.warning_row.WarningRow.{WarningRow}
use Rattle.coverage_board.specs.declared.numbers.Numbers.{Numbers}
use Rattle.status_figures.specs.declared.bsc_figures.BscFigures.{BscFigures}
use Rattle.status_figures.specs.declared.picture.Picture.{Picture}
use Rattle.status_figures.specs.declared.warning_figures.WarningFigures.{WarningFigures}
use Rattle.status_pages.specs.Kinds.{is_emergency}
use Rattle.status_pages.specs.declared.standing.Standing.{Standing}
use Rattle.status_pages.specs.declared.standing.Standing.TheVariants.{Pressing, Unreached, Silent, Wrong, UnderWay, InOrder, Stopped}

-- the warning is wanted in no registered cell
abbrev pub is_nowhere : Numbers → Bool
is_nowhere n = n.awaited == 0 && (n.on_air == 0 && n.failed == 0)

-- an active warning that is wanted in no registered cell reaches nobody; a stopped one reaches nobody on purpose
abbrev pub is_unreached : WarningRow → Bool
is_unreached w = w.is_active && is_nowhere w.numbers

-- a warning that failed in some cell has somebody look at it
abbrev pub is_wrong : WarningRow → Bool
is_wrong w = not (w.numbers.failed == 0)

-- one that is still to go on air or off it somewhere is under way
abbrev pub is_under_way : WarningRow → Bool
is_under_way w = not (w.numbers.awaited == 0) || not (w.numbers.left == 0)

-- for how many seconds an order may be out before somebody has to look
abbrev pub long_out : ℕ
long_out = 30

-- what is in flight has been out for that long
abbrev pub is_long_out : ℕ → Option ℕ → Bool
is_long_out taken None = false
is_long_out taken (Some since) = nat_le long_out (taken - since)

-- something is in flight to the BSC, or pending for it, or a RESET is out
abbrev pub is_busy : BscFigures → Bool
is_busy b = is_some b.row.flight || (not (b.row.pending == 0) || is_some b.reset)

-- something is out to the BSC, an order or a RESET, and has been for that long
abbrev pub is_late : ℕ → BscFigures → Bool
is_late taken b = is_long_out taken b.since || is_long_out taken b.reset

-- the BSC takes orders: its link is up, and nothing has been out to it for too long
abbrev pub is_working : ℕ → BscFigures → Bool
is_working taken b = b.row.is_up && not (is_late taken b)

-- what is in flight is an order
abbrev pub is_order : FlightKind → Bool
is_order Write = true
is_order Replace = true
is_order Kill = true
is_order Query = false

-- how many orders are in flight
abbrev pub orders_out : Option FlightRow → ℕ
orders_out None = 0
orders_out (Some f) = if is_order f.kind then 1 else 0

-- the BSC has an order to take besides the one in flight
abbrev pub has_order_left : BscFigures → Bool
has_order_left b = nat_lt (orders_out b.row.flight) b.row.pending

-- the serial number is of a version of the warning whose current version has that one: they differ at most in their update number, which are
-- the lowest four bits (TS 23.041, 9.4.1.2.1)
abbrev pub is_version : Option ℕ → ℕ → Bool
is_version None serial = true
is_version (Some current) serial = serial / 16 == current / 16

-- an order of the warning is in flight
abbrev pub is_flight_of : WarningRow → Option FlightRow → Bool
is_flight_of w None = false
is_flight_of w (Some f) = is_order f.kind && (f.message_id == w.message_id && is_version w.serial f.serial)

-- the BSC may be at work for the warning: it takes orders, and one of the warning is in flight, or an order is left, which may be of it, or
-- a RESET is out, which takes off the air all that the BSC broadcasts
abbrev pub may_serve : ℕ → WarningRow → BscFigures → Bool
may_serve taken w b = is_working taken b && (is_some b.reset || (has_order_left b || is_flight_of w b.row.flight))

-- some BSC may be at work for the warning
abbrev pub is_served : Picture → WarningRow → Bool
is_served p w = not (count_by (may_serve p.taken w) p.bscs == 0)

-- a warning that is still to go on air or off it somewhere while no BSC is at work for it is stuck: a BSC refused its orders, its cells or a
-- link are down, or a BSC doesn't answer
abbrev pub is_stuck : Picture → WarningRow → Bool
is_stuck p w = is_under_way w && not (is_served p w)

-- how a warning stands by its board
unfoldable pub row_standing : Picture → WarningRow → Standing
row_standing p w =
    if is_wrong w || is_stuck p w then Wrong
    else (if is_under_way w then UnderWay
    else (if w.is_active then InOrder else Stopped))

-- an emergency warning presses that reaches nobody, is silent, failed or is stuck
abbrev pub is_pressing : Picture → WarningFigures → Bool
is_pressing p w =
    is_emergency w.sheet.row
    && (is_unreached w.sheet.row || (not (w.silent == 0) || (is_wrong w.sheet.row || is_stuck p w.sheet.row)))

-- how a warning stands: an emergency has somebody look at it first, then a warning that reaches nobody, then one that is silent in some cell
unfoldable pub warning_standing : Picture → WarningFigures → Standing
warning_standing p w =
    if is_pressing p w then Pressing
    else (if is_unreached w.sheet.row then Unreached
    else (if w.silent == 0 then row_standing p w.sheet.row else Silent))

-- how many of the BSC's cells are down, as far as that is known
abbrev pub down_cells : BscFigures → ℕ
down_cells b = unwrap_or b.down 0

-- somebody has to look at the BSC: its link is down, or one of its cells, in which no warning of some kind can be broadcast, or it is late
abbrev pub needs_look : ℕ → BscFigures → Bool
needs_look taken b = not b.row.is_up || (not (down_cells b == 0) || is_late taken b)

-- how a BSC stands in a picture that was taken then
unfoldable pub bsc_standing : ℕ → BscFigures → Standing
bsc_standing taken b =
    if needs_look taken b then Wrong
    else (if is_busy b then UnderWay else InOrder)

-- the two are the same
abbrev pub is_same : Standing → Standing → Bool
is_same Pressing Pressing = true
is_same Unreached Unreached = true
is_same Silent Silent = true
is_same Wrong Wrong = true
is_same UnderWay UnderWay = true
is_same InOrder InOrder = true
is_same Stopped Stopped = true
is_same other another = false

-- somebody has to look at what stands so
abbrev pub is_urgent : Standing → Bool
is_urgent Pressing = true
is_urgent Unreached = true
is_urgent Silent = true
is_urgent Wrong = true
is_urgent UnderWay = false
is_urgent InOrder = false
is_urgent Stopped = false

-- somebody has to look at the warning
abbrev pub warning_is_urgent : Picture → WarningFigures → Bool
warning_is_urgent p w = is_urgent (warning_standing p w)

-- whether a warning stands so
abbrev pub warning_stands : Picture → Standing → WarningFigures → Bool
warning_stands p s w = is_same (warning_standing p w) s

-- whether a BSC stands so
abbrev pub bsc_stands : ℕ → Standing → BscFigures → Bool
bsc_stands taken s b = is_same (bsc_standing taken b) s
