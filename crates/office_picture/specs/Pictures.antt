-- A picture of an office, by what one survey of it shows.
use Rattle.std.specs.Prelude.{ℕ, Bool, ◌-◌, ◌||◌, List, [], ◌∷◌, Option, None, Some, count_by, find, is_some, map, nat_eq, slice_index_or, if◌then◌else◌}
use Rattle.centre_events.specs.declared.refusal.Limit.TheVariants as limit
use Rattle.centre_events.specs.declared.refusal.Refusal.{Refusal}
use Rattle.centre_events.specs.declared.refusal.Refusal.TheVariants as cause
use Rattle.centre_past.specs.declared.lists.bsc_row.BscRow.{BscRow}
use Rattle.centre_past.specs.declared.lists.cell_row.CellRow.{CellRow}
use Rattle.centre_questions.specs.declared.area_numbers.AreaNumbers.{AreaNumbers}
use Rattle.centre_questions.specs.declared.surveyed_warning.SurveyedWarning.{SurveyedWarning}
use Rattle.console_text.specs.Texts.{refusal_name}
use Rattle.office.specs.Counts.{cause_count, kind_count}
use Rattle.office.specs.Kinds.{kind_name}
use Rattle.office.specs.declared.counts.Counts.{Counts}
use Rattle.office.specs.declared.event_kind.EventKind.{EventKind}
use Rattle.office.specs.declared.event_kind.EventKind.TheVariants as kind
use Rattle.office.specs.declared.surveyed.Surveyed.{Surveyed}
use Rattle.office_picture.specs.declared.moments.Moments.{Moments}
use Rattle.office_picture.specs.declared.moments.WarningAir.{WarningAir}
use Rattle.status_figures.specs.declared.area_board.AreaBoard.{AreaBoard}
use Rattle.status_figures.specs.declared.bsc_figures.BscFigures.{BscFigures}
use Rattle.status_figures.specs.declared.picture.Picture.{Picture}
use Rattle.status_figures.specs.declared.tally.Tally.{Tally}
use Rattle.status_figures.specs.declared.warning_figures.WarningFigures.{WarningFigures}

-- BSCs.

-- what a list has for the BSC, that of BSC 1 first
abbrev pub of_bsc : List (Option ℕ) → BscRow → Option ℕ
of_bsc times row = slice_index_or times (row.bsc - 1) None

-- since when what is in flight to the BSC is out, where that is known
abbrev pub since_of : List (Option ℕ) → BscRow → Option ℕ
since_of sinces row = if is_some row.flight then of_bsc sinces row else None

-- since when a RESET is out over the BSC's link, where that is up
abbrev pub reset_of : List (Option ℕ) → BscRow → Option ℕ
reset_of resets row = if row.is_up then of_bsc resets row else None

-- when the BSC's link ended, where that is down
abbrev pub ended_of : List (Option ℕ) → BscRow → Option ℕ
ended_of ends row = if row.is_up then None else of_bsc ends row

-- the cell is down for some kind of warning
abbrev pub is_down : CellRow → Bool
is_down cell = cell.is_down || cell.is_down_for_emergency

-- how many of the cells are
abbrev pub down_count : List CellRow → ℕ
down_count cells = count_by is_down cells

-- a BSC
abbrev pub figures_of : List (Option ℕ) → List (Option ℕ) → List (Option ℕ) → List (Option ℕ) → BscRow → BscFigures
figures_of sinces resets ends downs row =
    record { row = row; since = since_of sinces row; reset = reset_of resets row; ended = ended_of ends row; down = of_bsc downs row }

-- Warnings.

-- an area of a warning
abbrev pub board_of : AreaNumbers → AreaBoard
board_of area = record { name = area.name; numbers = area.numbers }

-- it is known of that warning
abbrev pub is_of : ℕ → WarningAir → Bool
is_of number air = nat_eq air.warning number

-- in how many cells a warning is silent of which that is known
abbrev pub silent_in : Option WarningAir → ℕ
silent_in None = 0
silent_in (Some air) = air.silent

-- since when it is over
abbrev pub over_in : Option WarningAir → Option ℕ
over_in None = None
over_in (Some air) = air.over

-- a warning that is silent in so many cells, and over since then
abbrev pub warning_with : ℕ → Option ℕ → SurveyedWarning → WarningFigures
warning_with silent over warning = record { sheet = warning.sheet; areas = map board_of warning.areas; silent = silent; over = over }

-- what is known of the warning of that number
abbrev pub air_of : List WarningAir → ℕ → Option WarningAir
air_of airs number = find (is_of number) airs

-- a warning
abbrev pub warning_of : List WarningAir → SurveyedWarning → WarningFigures
warning_of airs warning = warning_with (silent_in (air_of airs warning.sheet.row.number)) (over_in (air_of airs warning.sheet.row.number)) warning

-- What was counted.

-- a name and a count
abbrev pub tally : List ℕ → ℕ → Tally
tally name count = record { name = name; count = count }

-- every kind of event
abbrev pub all_kinds : List EventKind
all_kinds =
    kind.AddBsc ∷ kind.RemoveBsc ∷ kind.AddCell ∷ kind.MoveCell ∷ kind.RemoveCell ∷ kind.AddArea ∷ kind.DropArea ∷
    kind.Put ∷ kind.Cut ∷ kind.Issue ∷ kind.Update ∷ kind.Widen ∷ kind.Narrow ∷ kind.Stop ∷
    kind.Forget ∷ kind.Retry ∷ kind.LinkUp ∷ kind.LinkDown ∷ kind.Send ∷ kind.Ask ∷ kind.Report ∷ []

-- how many events of that kind were entered
abbrev pub entry_tally : Counts → EventKind → Tally
entry_tally counts k = tally (kind_name k) (kind_count counts k)

-- every cause of a refusal, with any number in it
abbrev pub all_causes : List Refusal
all_causes =
    cause.Stale ∷ cause.JournalFull ∷ cause.NoSuchBsc ∷ cause.BscExists ∷ cause.BscHasCells ∷ cause.LinkIsUp ∷
    cause.CellExists ∷ cause.NoSuchCell ∷ cause.SameBsc ∷ cause.BadName ∷ cause.AreaExists ∷ cause.NoSuchArea ∷
    cause.AreaInUse ∷ cause.SelectorThere ∷ cause.SelectorNotThere ∷ cause.NoSuchWarning ∷ cause.NotActive ∷ cause.StillActive ∷
    cause.StillReported ∷ cause.StillInFlight ∷ cause.NoAreas ∷ cause.AreaThere ∷ cause.AreaNotThere ∷ cause.LastArea ∷
    cause.BadPages ∷ cause.BadPeriod ∷ cause.WrongKind ∷ cause.StaleLink 0 ∷ cause.LinkNotUp ∷ cause.InFlight ∷
    cause.NothingPending ∷ cause.NothingToAsk ∷ cause.NoOrder ∷ cause.Limit limit.Bscs ∷ cause.Memory ∷ cause.WrongDesk 0 ∷ []

-- how many events and questions were refused for that cause
abbrev pub refusal_tally : Counts → Refusal → Tally
refusal_tally counts r = tally (refusal_name r) (cause_count counts r)

-- The picture.

-- what one survey shows, and what is known beside it
abbrev pub picture : Surveyed → Moments → Picture
picture s m = record {
  taken = m.taken;
  begun = m.begun;
  status = s.survey.status;
  bscs = map (figures_of m.sinces.items m.resets.items m.ends.items m.downs.items) s.survey.bscs;
  warnings = map (warning_of m.airs.items) s.survey.warnings;
  kept = m.kept;
  receipts = s.counts.receipts;
  refusals = map (refusal_tally s.counts) all_causes;
  entries = map (entry_tally s.counts) all_kinds;
  memory = m.memory;
}
