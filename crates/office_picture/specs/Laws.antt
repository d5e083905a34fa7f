-- That a survey leaves out no warning in the book, and no area of a warning.
use Rattle.std.specs.Prelude.{◌≡◌, ℕ, false, List, map}
use Rattle.centre_events.specs.Past.{Past}
use Rattle.centre_events.specs.Warnings.{warnings_of}
use Rattle.centre_past.specs.Legal.{Known, Lawful, past}
use Rattle.centre_past.specs.Lists.{warning_sheet}
use Rattle.centre_past.specs.Numbers.{area_total}
use Rattle.centre_questions.specs.Surveys.{survey}
use Rattle.centre_questions.specs.declared.area_numbers.AreaNumbers.{AreaNumbers}
use Rattle.centre_questions.specs.declared.surveyed_warning.SurveyedWarning.{SurveyedWarning}
use Rattle.warning_book.specs.declared.warning.Warning.{Warning}

-- an area of a warning, with the numbers of the warning in the cells that the area covers
abbrev pub surveyed_area : Past → Warning → List ℕ → AreaNumbers
surveyed_area past w a = record { name = a; numbers = area_total past a w }

-- a warning with its content, and each of its areas, in their order
abbrev pub surveyed : Past → Warning → SurveyedWarning
surveyed past w = record { sheet = warning_sheet past w; areas = map (surveyed_area past w) w.areas }

-- a survey of a lawful centre that isn't stale shows each warning in the book once, in the order of the book
abbrev pub SurveyHasAll : Type 0
SurveyHasAll = (centre : Known) → Lawful centre.settings (past centre) → centre.stale ≡ false → (survey centre).warnings ≡ map (surveyed (past centre)) (warnings_of (past centre))
