-- What is seen of a whole centre at one moment.
use Rattle.std.specs.Prelude.{ℕ, List, [], ◌∷◌, Option, Some, None, Result, Ok, Err, if◌then◌else◌}
use Rattle.std.specs.List.{flat_map}
use Rattle.centre_events.specs.Past.{Past}
use Rattle.centre_events.specs.declared.refusal.Refusal.{Refusal}
use Rattle.centre_past.specs.Legal.{Known, past}
use Rattle.centre_past.specs.Lists.{bsc_rows, sheet_of, status, warning_rows}
use Rattle.centre_past.specs.Numbers.{area_board}
use Rattle.centre_past.specs.declared.lists.warning_row.WarningRow.{WarningRow}
use Rattle.centre_past.specs.declared.lists.warning_sheet.WarningSheet.{WarningSheet}
use Rattle.centre_questions.specs.declared.area_numbers.AreaNumbers.{AreaNumbers}
use Rattle.centre_questions.specs.declared.survey.Survey.{Survey}
use Rattle.centre_questions.specs.declared.surveyed_warning.SurveyedWarning.{SurveyedWarning}
use Rattle.coverage_board.specs.declared.numbers.Numbers.{Numbers}

-- the area with its numbers, where the board has them
abbrev pub area_if : List ℕ → Result Numbers Refusal → List AreaNumbers
area_if a (Ok numbers) = record { name = a; numbers = numbers } ∷ []
area_if a (Err r) = []

-- the area, as the board of the warning has it
abbrev pub area_of : Past → ℕ → List ℕ → List AreaNumbers
area_of past w a = area_if a (area_board past w a)

-- the areas of those names
abbrev pub areas_in : Past → ℕ → List (List ℕ) → List AreaNumbers
areas_in past w names = flat_map (area_of past w) names

-- the warning with its areas, where the book has it
abbrev pub warning_if : Past → ℕ → Option WarningSheet → List SurveyedWarning
warning_if past w None = []
warning_if past w (Some sheet) = record { sheet = sheet; areas = areas_in past w sheet.row.areas } ∷ []

-- the warning of that number, as the book has it
abbrev pub warning_of : Past → ℕ → List SurveyedWarning
warning_of past w = warning_if past w (sheet_of past w)

-- the warning of the row
abbrev pub warning_at : Past → WarningRow → List SurveyedWarning
warning_at past row = warning_of past row.number

-- the warnings of those rows
abbrev pub warnings_in : Past → List WarningRow → List SurveyedWarning
warnings_in past rows = flat_map (warning_at past) rows

-- how the centre stands, and where it isn't stale its BSCs and its warnings
abbrev pub survey : Known → Survey
survey centre = record {
  status = status centre;
  bscs = if centre.stale then [] else bsc_rows (past centre);
  warnings = if centre.stale then [] else warnings_in (past centre) (warning_rows (past centre));
}
