-- Why somebody has to look: a line for each warning and each BSC at which somebody has to, the most urgent first.
use Rattle.std.specs.Prelude.{ℕ, ◌-◌, ◌==◌, List, [], ◌++◌, Option, Some, None, codes, decimal, if◌then◌else◌}
use Rattle.std.specs.List.{flat_map}
use Rattle.centre_past.specs.declared.lists.warning_row.WarningRow.{WarningRow}
use Rattle.coverage_board.specs.declared.numbers.Numbers.{Numbers}
use Rattle.status_figures.specs.Words.{link_word}
use Rattle.status_figures.specs.declared.area_board.AreaBoard.{AreaBoard}
use Rattle.status_figures.specs.declared.bsc_figures.BscFigures.{BscFigures}
use Rattle.status_figures.specs.declared.picture.Picture.{Picture}
use Rattle.status_figures.specs.declared.warning_figures.WarningFigures.{WarningFigures}
use Rattle.status_pages.specs.Boards.{figure_if}
use Rattle.status_pages.specs.Escapes.{escaped}
use Rattle.status_pages.specs.Pieces.{piece_html}
use Rattle.status_pages.specs.Standings.{down_cells, is_long_out, is_unreached, needs_look, warning_stands}
use Rattle.status_pages.specs.declared.cause.Cause.{Cause}
use Rattle.status_pages.specs.declared.cause.Cause.TheVariants as cause
use Rattle.status_pages.specs.declared.piece.Piece.TheVariants as piece
use Rattle.status_pages.specs.declared.standing.Standing.{Standing}
use Rattle.status_pages.specs.declared.standing.Standing.TheVariants.{Pressing, Unreached, Silent, Wrong}

-- what a number in a line counts
abbrev pub cause_word : Cause → List ℕ
cause_word cause.SilentCells = codes "cells silent"
cause_word cause.FailedCells = codes "cells failed"
cause_word cause.AwaitedCells = codes "cells awaited"
cause_word cause.LeftPlaces = codes "places left"
cause_word cause.DownCells = codes "cells down"
cause_word cause.NoReply = codes "seconds without a reply"
cause_word cause.NoAnswer = codes "seconds without an answer to RESET"

-- its class
abbrev pub cause_class : Cause → List ℕ
cause_class cause.SilentCells = codes "f"
cause_class cause.FailedCells = codes "f"
cause_class cause.AwaitedCells = codes "a"
cause_class cause.LeftPlaces = codes "l"
cause_class cause.DownCells = codes "f"
cause_class cause.NoReply = codes "l"
cause_class cause.NoAnswer = codes "l"

-- the number with its word, where it isn't 0
unfoldable pub cause_figure : Cause → ℕ → List ℕ
cause_figure c n = figure_if (cause_class c) (cause_word c) n

-- a warning of that number, which leads to where it stands
unfoldable pub warning_link : ℕ → List ℕ
warning_link number = codes "<li><a href=\"#w" ++ (decimal number ++ (codes "\">Warning " ++ (decimal number ++ codes "</a> ")))

-- that it reaches nobody
unfoldable pub unreached_word : WarningRow → List ℕ
unreached_word w = if is_unreached w then codes "<b>REACHES NO CELL</b> " else []

-- an area by its name
unfoldable pub area_word : AreaBoard → List ℕ
area_word a = piece_html piece.InFront ++ (escaped a.name ++ piece_html piece.InEnd)

-- an area in which the warning failed somewhere
abbrev pub area_if : AreaBoard → List ℕ
area_if a = if a.numbers.failed == 0 then [] else area_word a

-- in how many cells it is silent, in how many it failed, and in which areas these are
unfoldable pub faults_why : WarningFigures → List ℕ
faults_why w =
    cause_figure cause.SilentCells w.silent
    ++ (cause_figure cause.FailedCells w.sheet.row.numbers.failed ++ flat_map area_if w.areas)

-- where it is still to go on air, or off it
unfoldable pub rest_why : Numbers → List ℕ
rest_why n = cause_figure cause.AwaitedCells n.awaited ++ cause_figure cause.LeftPlaces n.left

-- the line of a warning
unfoldable pub warning_why : WarningFigures → List ℕ
warning_why w =
    warning_link w.sheet.row.number
    ++ (unreached_word w.sheet.row ++ (faults_why w ++ (rest_why w.sheet.row.numbers ++ piece_html piece.ItemEnd)))

-- that line, if the warning stands so
abbrev pub warning_cause : Picture → Standing → WarningFigures → List ℕ
warning_cause p s w = if warning_stands p s w then warning_why w else []

-- the lines of the warnings at which somebody has to look: first the emergencies, then what reaches nobody, then the silent ones
unfoldable pub warning_causes : Picture → List WarningFigures → List ℕ
warning_causes p warnings =
    flat_map (warning_cause p Pressing) warnings
    ++ (flat_map (warning_cause p Unreached) warnings
    ++ (flat_map (warning_cause p Silent) warnings ++ flat_map (warning_cause p Wrong) warnings))

-- a BSC of that number, which leads to where it stands, and its link
unfoldable pub bsc_link : ℕ → List ℕ → List ℕ
bsc_link number link =
    codes "<li><a href=\"#b" ++ (decimal number ++ (codes "\">BSC " ++ (decimal number ++ (codes "</a> link " ++ (link ++ codes " ")))))

-- for how many seconds something is out that has been so for too long
abbrev pub seconds_late : ℕ → Option ℕ → ℕ
seconds_late taken None = 0
seconds_late taken (Some since) = if is_long_out taken (Some since) then taken - since else 0

-- the line of a BSC: its cells that are down, and for how long it owes a reply or the answer to a RESET
unfoldable pub bsc_why : ℕ → BscFigures → List ℕ
bsc_why taken b =
    bsc_link b.row.bsc (link_word b)
    ++ (cause_figure cause.DownCells (down_cells b)
    ++ (cause_figure cause.NoReply (seconds_late taken b.since)
    ++ (cause_figure cause.NoAnswer (seconds_late taken b.reset) ++ piece_html piece.ItemEnd)))

-- that line, where somebody has to look at the BSC
abbrev pub bsc_cause : ℕ → BscFigures → List ℕ
bsc_cause taken b = if needs_look taken b then bsc_why taken b else []

-- all lines: those of the warnings, in that order, and those of the BSCs
unfoldable pub causes_html : Picture → List WarningFigures → List ℕ
causes_html p warnings =
    piece_html piece.CausesFront
    ++ (warning_causes p warnings ++ (flat_map (bsc_cause p.taken) p.bscs ++ piece_html piece.ListEnd))
