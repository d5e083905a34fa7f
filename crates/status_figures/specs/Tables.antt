-- The tables of a picture, in CSV: a line of names, and a record for each warning and each of its areas, or for each BSC.
use Rattle.std.specs.Prelude.{◌≡◌, ℕ, List, [], ◌∷◌, ◌++◌, Option, Some, None, codes, decimal}
use Rattle.std.specs.List.{flat_map}
use Rattle.std.specs.Option.{option_or}
use Rattle.csv.specs.Records.{Row, partial_of}
use Rattle.csv.specs.Writing.{default_writer, row_text}
use Rattle.centre_past.specs.declared.lists.flight_row.FlightRow.{FlightRow}
use Rattle.centre_past.specs.declared.lists.warning_row.WarningRow.{WarningRow}
use Rattle.coverage_board.specs.declared.numbers.Numbers.{Numbers}
use Rattle.status_figures.specs.Words.{flight_name, four_digits, kind_name, link_word, newline, state_name}
use Rattle.status_figures.specs.declared.area_board.AreaBoard.{AreaBoard}
use Rattle.status_figures.specs.declared.bsc_figures.BscFigures.{BscFigures}
use Rattle.status_figures.specs.declared.picture.Picture.{Picture}
use Rattle.status_figures.specs.declared.warning_figures.WarningFigures.{WarningFigures}

-- every field that was begun is ended
abbrev pub HasWholeFields : Row → Type 0
HasWholeFields row = partial_of row ≡ []

-- a record, as a writer of this crate's kind writes it: a field with a comma, a quote or an end of a line stands in quotes
abbrev pub record_text : List (List ℕ) → List ℕ
record_text fields = row_text default_writer fields

-- a number, or nothing
abbrev pub number_if : Option ℕ → List ℕ
number_if None = []
number_if (Some n) = decimal n

-- a serial number, or nothing
abbrev pub serial_if : Option ℕ → List ℕ
serial_if None = []
serial_if (Some s) = four_digits s

-- the five numbers of a board
abbrev pub number_fields : Numbers → List (List ℕ)
number_fields n = decimal n.awaited ∷ decimal n.on_air ∷ decimal n.failed ∷ decimal n.left ∷ decimal n.broadcasts ∷ []

-- what names a warning
abbrev pub warning_fields : WarningRow → List (List ℕ)
warning_fields w = decimal w.number ∷ decimal w.message_id ∷ serial_if w.serial ∷ kind_name w.kind ∷ state_name w.is_active ∷ []

-- a board of a warning, in the area of that name, which is empty for the whole warning
abbrev pub board_fields : WarningRow → List ℕ → Numbers → List (List ℕ)
board_fields w area n = warning_fields w ++ area ∷ number_fields n

-- the record of an area
abbrev pub area_record : WarningRow → AreaBoard → List ℕ
area_record w a = record_text (board_fields w a.name a.numbers)

-- the record of a warning, and those of its areas
abbrev pub warning_records : WarningFigures → List ℕ
warning_records w = record_text (board_fields w.sheet.row [] w.sheet.row.numbers) ++ flat_map (area_record w.sheet.row) w.areas

-- the names of the fields of a board
abbrev pub boards_head : List ℕ
boards_head = codes "warning,message_id,serial,kind,state,area,awaited,on_air,failed,left,broadcasts" ++ newline

-- the boards of all warnings
abbrev pub boards_csv : Picture → List ℕ
boards_csv p = boards_head ++ flat_map warning_records p.warnings

-- what is in flight: its kind, its message identifier and its serial number, or nothing
abbrev pub flight_fields : Option FlightRow → List (List ℕ)
flight_fields None = [] ∷ [] ∷ [] ∷ []
flight_fields (Some f) = flight_name f.kind ∷ decimal f.message_id ∷ four_digits f.serial ∷ []

-- a BSC, its cells, its link and the generation of its latest one
abbrev pub link_fields : BscFigures → List (List ℕ)
link_fields b = decimal b.row.bsc ∷ decimal b.row.cells ∷ link_word b ∷ decimal b.row.last ∷ []

-- since when something is out to it: what is in flight, or else a RESET
abbrev pub out_since : BscFigures → Option ℕ
out_since b = option_or b.since b.reset

-- a BSC, with what is in flight to it, since when, and how many orders are pending
abbrev pub bsc_fields : BscFigures → List (List ℕ)
bsc_fields b = link_fields b ++ (flight_fields b.row.flight ++ number_if (out_since b) ∷ decimal b.row.pending ∷ [])

-- the record of a BSC
abbrev pub bsc_record : BscFigures → List ℕ
bsc_record b = record_text (bsc_fields b)

-- the names of the fields of a BSC
abbrev pub bscs_head : List ℕ
bscs_head = codes "bsc,cells,link,generation,in_flight,message_id,serial,in_flight_since,pending" ++ newline

-- all BSCs
abbrev pub bscs_csv : Picture → List ℕ
bscs_csv p = bscs_head ++ flat_map bsc_record p.bscs
