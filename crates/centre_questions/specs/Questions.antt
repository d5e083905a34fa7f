-- What a question is answered.
use Rattle.std.specs.Prelude.{◌≡◌, ◌⊎◌, Bool, List, true, false, Option, Some, None, Result, Ok, Err, IsOk}
use Rattle.std.specs.Option.{is_some}
use Rattle.centre_events.specs.Cover.{is_area}
use Rattle.centre_events.specs.InFlight.{in_flight}
use Rattle.centre_past.specs.Legal.{Known, past}
use Rattle.centre_past.specs.LinkStates.{has_pending}
use Rattle.centre_past.specs.Lists.{area_rows, area_selectors, bsc_rows, cell_rows, failed_of, sheet_of, warning_rows}
use Rattle.centre_events.specs.Links.{is_bsc}
use Rattle.centre_past.specs.Numbers.{board, area_board}
use Rattle.centre_events.specs.Past.{Past}
use Rattle.centre_events.specs.Pending.{pending}
use Rattle.centre_events.specs.Places.{place}
use Rattle.centre_past.specs.Table.{table}
use Rattle.centre_events.specs.declared.refusal.Refusal.{Refusal}
use Rattle.centre_events.specs.declared.refusal.Refusal.TheVariants as refusal
use Rattle.centre_past.specs.declared.lists.failed_row.FailedRow.{FailedRow}
use Rattle.centre_past.specs.declared.lists.warning_sheet.WarningSheet.{WarningSheet}
use Rattle.coverage_board.specs.declared.numbers.Numbers.{Numbers}
use Rattle.centre_questions.specs.declared.question.Question.{Question}
use Rattle.centre_questions.specs.declared.question.Question.TheVariants as question
use Rattle.centre_questions.specs.declared.seen_value.SeenValue.{SeenValue}
use Rattle.centre_questions.specs.declared.seen_value.SeenValue.TheVariants as value

-- the numbers of a warning that the book has
abbrev pub of_warning : Option Numbers → Result SeenValue Refusal
of_warning None = Err refusal.NoSuchWarning
of_warning (Some numbers) = Ok (value.Numbers numbers)

-- the numbers of a warning and an area, or the refusal
abbrev pub of_area : Result Numbers Refusal → Result SeenValue Refusal
of_area (Err r) = Err r
of_area (Ok numbers) = Ok (value.Numbers numbers)

-- the value, where the BSC is registered
abbrev pub of_bsc : Bool → SeenValue → Result SeenValue Refusal
of_bsc true v = Ok v
of_bsc false v = Err refusal.NoSuchBsc

-- the value, where there is such an area
abbrev pub of_known_area : Bool → SeenValue → Result SeenValue Refusal
of_known_area true v = Ok v
of_known_area false v = Err refusal.NoSuchArea

-- a warning that the book has, with its content
abbrev pub of_sheet : Option WarningSheet → Result SeenValue Refusal
of_sheet None = Err refusal.NoSuchWarning
of_sheet (Some sheet) = Ok (value.Warning sheet)

-- the cells in which a warning that the book has failed
abbrev pub of_failed : Option (List FailedRow) → Result SeenValue Refusal
of_failed None = Err refusal.NoSuchWarning
of_failed (Some rows) = Ok (value.Failed rows)

-- what the question is answered after that past
abbrev pub value_of : Past → Question → Result SeenValue Refusal
value_of past (question.Total w) = of_warning (board past w)
value_of past (question.Area w a) = of_area (area_board past w a)
value_of past (question.Place c) = Ok (value.Place (place past c))
value_of past (question.Pending b) = of_bsc (is_bsc past b) (value.Pending (pending past b))
value_of past (question.Table b) = of_bsc (is_bsc past b) (value.Table (table past b))
value_of past (question.InFlight b) = of_bsc (is_bsc past b) (value.InFlight (in_flight past b))
value_of past question.Bscs = Ok (value.Bscs (bsc_rows past))
value_of past (question.Cells b) = of_bsc (is_bsc past b) (value.Cells (cell_rows past b))
value_of past question.Areas = Ok (value.Areas (area_rows past))
value_of past (question.Selectors a) = of_known_area (is_area past a) (value.Selectors (area_selectors past a))
value_of past question.Warnings = Ok (value.Warnings (warning_rows past))
value_of past (question.Warning w) = of_sheet (sheet_of past w)
value_of past (question.Failed w) = of_failed (failed_of past w)

-- the answer takes memory: a table or another list does, and where something is pending or in flight, so does the answer of
-- a question for it
abbrev pub takes_memory : Past → Question → Bool
takes_memory past (question.Total w) = false
takes_memory past (question.Area w a) = false
takes_memory past (question.Place c) = false
takes_memory past (question.Pending b) = has_pending past b
takes_memory past (question.InFlight b) = is_some (in_flight past b)
takes_memory past list = true

-- lines are read for the answer, which the centre's meter counts
abbrev pub reads_lines : Question → Bool
reads_lines (question.Table b) = true
reads_lines (question.Failed w) = true
reads_lines other = false

-- why a centre refuses a question: it is stale, memory runs out for the answer, or the answer is that refusal
abbrev pub RefusesQuestion : Known → Question → Refusal → Type 0
RefusesQuestion centre q r = ((r ≡ refusal.Stale) × (centre.stale ≡ true))
    ⊎ ((centre.stale ≡ false) × (((r ≡ refusal.Memory) × (takes_memory (past centre) q ≡ true) × IsOk (value_of (past centre) q)) ⊎ (value_of (past centre) q ≡ Err r)))

-- the centre is whole, and that is the answer
abbrev pub Shows : Known → Question → SeenValue → Type 0
Shows centre q v = (centre.stale ≡ false) × (value_of (past centre) q ≡ Ok v)
