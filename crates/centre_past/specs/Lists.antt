-- Lists of what a centre has, each as it stands after a past.
use Rattle.std.specs.Prelude.{ℕ, Bool, List, Option, None, Some, count_by, length, ltb, map, if◌then◌else◌}
use Rattle.std.specs.List.{filter, flat_map, last_or}
use Rattle.std.specs.Option.{option_and_then, option_map, option_to_list}
use Rattle.areas.specs.Name.{octets_lt}
use Rattle.areas.specs.Selector.{selector_lt}
use Rattle.areas.specs.declared.area.Area.{Area}
use Rattle.areas.specs.declared.selector.Selector.{Selector}
use Rattle.cell_register.specs.Register.{is_place}
use Rattle.common.specs.Cell.{cell_lt}
use Rattle.common.specs.Sorting.{sorted_by}
use Rattle.common.specs.declared.cell.Cell.{Cell}
use Rattle.cbsp_ie.specs.declared.cause.Cause.{Cause}
use Rattle.mirror.specs.Seen.{is_on_air}
use Rattle.mirror.specs.declared.presence.Presence.{Presence}
use Rattle.order_maker.specs.declared.order_kind.OrderKind.{OrderKind}
use Rattle.order_maker.specs.declared.order_kind.OrderKind.TheVariants.{Kill, Replace, Write}
use Rattle.warning_book.specs.Book.{current_of, kind_of, warning_of}
use Rattle.warning_book.specs.declared.content.Content.{Content}
use Rattle.warning_book.specs.declared.kind.Kind.TheVariants as kind
use Rattle.warning_book.specs.declared.warning.Warning.{Warning}
use Rattle.centre_events.specs.Cover.{area_count, areas, has_selector, is_area, selector_count, selectors}
use Rattle.centre_events.specs.Down.{is_down}
use Rattle.centre_events.specs.InFlight.{in_flight}
use Rattle.centre_events.specs.Links.{bsc_count, bscs, is_bsc, is_up, last_link}
use Rattle.centre_events.specs.Past.{Past}
use Rattle.centre_events.specs.Pending.{pending}
use Rattle.centre_events.specs.Places.{cell_count, cells, is_registered, place}
use Rattle.centre_events.specs.Plan.{wanted}
use Rattle.centre_events.specs.Presence.{hold, presence}
use Rattle.centre_events.specs.Warnings.{book_of, warnings_of}
use Rattle.centre_events.specs.declared.in_flight.InFlight.{InFlight}
use Rattle.centre_events.specs.declared.in_flight.InFlight.TheVariants as flight
use Rattle.centre_past.specs.Legal.{Known, all_entries, past}
use Rattle.centre_past.specs.Numbers.{total}
use Rattle.centre_past.specs.declared.lists.area_row.AreaRow.{AreaRow}
use Rattle.centre_past.specs.declared.lists.bsc_row.BscRow.{BscRow}
use Rattle.centre_past.specs.declared.lists.cell_row.CellRow.{CellRow}
use Rattle.centre_past.specs.declared.lists.centre_status.CentreStatus.{CentreStatus}
use Rattle.centre_past.specs.declared.lists.failed_row.FailedRow.{FailedRow}
use Rattle.centre_past.specs.declared.lists.failure.Failure.{Failure}
use Rattle.centre_past.specs.declared.lists.failure.Failure.TheVariants.{Down, Refused}
use Rattle.centre_past.specs.declared.lists.flight_kind.FlightKind.{FlightKind}
use Rattle.centre_past.specs.declared.lists.flight_kind.FlightKind.TheVariants as flight_kind
use Rattle.centre_past.specs.declared.lists.flight_row.FlightRow.{FlightRow}
use Rattle.centre_past.specs.declared.lists.plan_counts.PlanCounts.{PlanCounts}
use Rattle.centre_past.specs.declared.lists.warning_row.WarningRow.{WarningRow}
use Rattle.centre_past.specs.declared.lists.warning_sheet.WarningSheet.{WarningSheet}

-- BSCs and cells.

-- the registered BSCs, in ascending order
abbrev pub registered_bscs : Past → List ℕ
registered_bscs past = sorted_by ltb (filter (is_bsc past) (bscs past))

-- the registered cells, in ascending order
abbrev pub registered_cells : Past → List Cell
registered_cells past = sorted_by cell_lt (filter (is_registered past) (cells past))

-- the cells that are registered at the BSC, in ascending order
abbrev pub cells_at : Past → ℕ → List Cell
cells_at past b = sorted_by cell_lt (filter (λ c. is_place (place past c) b) (cells past))

-- the kind of an order in flight
abbrev pub flight_kind_of : OrderKind → FlightKind
flight_kind_of Write = flight_kind.Write
flight_kind_of (Replace old) = flight_kind.Replace
flight_kind_of Kill = flight_kind.Kill

-- what is in flight, but for its cells
abbrev pub flight_row : InFlight → FlightRow
flight_row (flight.Order order) = record { kind = flight_kind_of order.kind; message_id = order.message_id; serial = order.serial }
flight_row (flight.Query message_id serial cells) = record { kind = flight_kind.Query; message_id = message_id; serial = serial }

-- a BSC: how many cells are registered at it, its link, what is in flight to it, and how many orders are pending for it
abbrev pub bsc_row : Past → ℕ → BscRow
bsc_row past b = record {
  bsc = b;
  cells = length (cells_at past b);
  is_up = is_up past b;
  last = last_link past b;
  flight = option_map flight_row (in_flight past b);
  pending = length (pending past b);
}

-- the registered BSCs
abbrev pub bsc_rows : Past → List BscRow
bsc_rows past = map (bsc_row past) (registered_bscs past)

-- a cell at a BSC: whether it is down there for warnings of each kind
abbrev pub cell_row : Past → ℕ → Cell → CellRow
cell_row past b c = record { cell = c; is_down = is_down past kind.Cbs b c; is_down_for_emergency = is_down past kind.Emergency b c }

-- the cells that are registered at the BSC
abbrev pub cell_rows : Past → ℕ → List CellRow
cell_rows past b = map (cell_row past b) (cells_at past b)

-- Areas.

-- the names of the areas, in the order of their octets
abbrev pub area_names : Past → List (List ℕ)
area_names past = sorted_by octets_lt (filter (is_area past) (areas past))

-- an area: how many selectors it has
abbrev pub area_row : Past → List ℕ → AreaRow
area_row past a = record { name = a; selectors = selector_count past a }

-- that row, of an area as it is kept
abbrev pub kept_row : Area → AreaRow
kept_row x = record { name = x.name; selectors = length x.selectors }

-- the areas
abbrev pub area_rows : Past → List AreaRow
area_rows past = map (area_row past) (area_names past)

-- the selectors of the area, in their order
abbrev pub area_selectors : Past → List ℕ → List Selector
area_selectors past a = sorted_by selector_lt (filter (has_selector past a) (selectors past a))

-- Warnings.

-- a warning: its current version, whether it is active, its areas, and its numbers on the board
abbrev pub warning_row : Past → Warning → WarningRow
warning_row past w = record {
  number = w.number;
  message_id = w.message_id;
  serial = current_of w;
  is_active = w.active;
  kind = kind_of w;
  areas = w.areas;
  numbers = total past w;
}

-- the warnings in the book, in the order of issue, which is that of their numbers
abbrev pub warning_rows : Past → List WarningRow
warning_rows past = map (warning_row past) (warnings_of past)

-- the rows of warnings stand in the order of their numbers
abbrev pub warning_lt : WarningRow → WarningRow → Bool
warning_lt x y = ltb x.number y.number

-- the content of the current version
abbrev pub current_content : Warning → Option Content
current_content w = option_map (λ v. v.content) (last_or None w.versions)

-- a warning with its content
abbrev pub warning_sheet : Past → Warning → WarningSheet
warning_sheet past w = record { row = warning_row past w; content = current_content w }

-- that of the warning of that number, if the book has it
abbrev pub sheet_of : Past → ℕ → Option WarningSheet
sheet_of past n = option_map (warning_sheet past) (warning_of (book_of past) n)

-- Where a warning failed.

-- why a version that is wanted in a cell failed there: the cell is down, or the version isn't on air and its order was refused
abbrev pub failure_if : Bool → Presence → Option Cause → Option Failure
failure_if down present refused = if down then Some Down else (if is_on_air present then None else option_map Refused refused)

-- why the version of that serial number failed in the cell at the BSC, where it is wanted
abbrev pub failure_of : Past → ℕ → Warning → Cell → ℕ → Option Failure
failure_of past b w c s = failure_if (is_down past (kind_of w) b c) (presence past b c w.message_id s) (hold past b c w.message_id s)

-- why the version failed that is wanted there, if one is
abbrev pub failure : Past → ℕ → Warning → Cell → Option Failure
failure past b w c = option_and_then (failure_of past b w c) (wanted past b w c)

-- a cell at a BSC, and why the warning failed there
abbrev pub failed_row : ℕ → Cell → Failure → FailedRow
failed_row b c why = record { cell = c; bsc = b; why = why }

-- that row of a cell at a BSC, if the warning failed there
abbrev pub failed_at : Past → Warning → Cell → ℕ → Option FailedRow
failed_at past w c b = option_map (failed_row b c) (failure past b w c)

-- that row of a cell at the BSC at which it is registered
abbrev pub failed_in : Past → Warning → Cell → List FailedRow
failed_in past w c = option_to_list (option_and_then (failed_at past w c) (place past c))

-- the registered cells in which the warning failed, in ascending order
abbrev pub failed_rows : Past → Warning → List FailedRow
failed_rows past w = flat_map (failed_in past w) (registered_cells past)

-- those of the warning of that number, if the book has it
abbrev pub failed_of : Past → ℕ → Option (List FailedRow)
failed_of past n = option_map (failed_rows past) (warning_of (book_of past) n)

-- How a centre stands.

-- how many there are of each thing
abbrev pub plan_counts : Past → PlanCounts
plan_counts past = record {
  bscs = bsc_count past;
  links_up = count_by (is_up past) (registered_bscs past);
  cells = cell_count past;
  areas = area_count past;
  warnings = length (warnings_of past);
  active = count_by (λ w. w.active) (warnings_of past);
}

-- how the centre stands: its entries, and where it isn't stale how many there are of each thing
abbrev pub status : Known → CentreStatus
status centre = record {
  entries = length (all_entries centre);
  folded = length centre.folded;
  limit = centre.settings.limit;
  is_stale = centre.stale;
  counts = if centre.stale then None else Some (plan_counts (past centre));
}
