-- A BSC on the page.
use Rattle.std.specs.Prelude.{ℕ, ◌-◌, ◌==◌, List, [], ◌++◌, Option, Some, None, codes, count_by, decimal, if◌then◌else◌}
use Rattle.std.specs.List.{flat_map}
use Rattle.centre_past.specs.declared.lists.flight_row.FlightRow.{FlightRow}
use Rattle.status_figures.specs.Words.{flight_name, four_digits, is_in_service, link_word}
use Rattle.status_figures.specs.declared.bsc_figures.BscFigures.{BscFigures}
use Rattle.status_pages.specs.Standings.{bsc_standing, bsc_stands}
use Rattle.status_pages.specs.WarningParts.{section_front, section_if, standing_class}
use Rattle.status_pages.specs.declared.standing.Standing.{Standing}
use Rattle.status_pages.specs.declared.standing.Standing.TheVariants.{Pressing, Unreached, Silent, Wrong, UnderWay, InOrder, Stopped}
use Rattle.status_pages.specs.Pieces.{piece_html}
use Rattle.status_pages.specs.Times.{time_of_day}
use Rattle.status_pages.specs.declared.piece.Piece.TheVariants as piece

-- what a list of BSCs that stand so is called
abbrev pub bscs_title : Standing → List ℕ
bscs_title Pressing = codes "BSCs that press"
bscs_title Unreached = codes "BSCs that reach no cell"
bscs_title Silent = codes "Silent BSCs"
bscs_title Wrong = codes "BSCs to look at"
bscs_title UnderWay = codes "BSCs under way"
bscs_title InOrder = codes "BSCs in order"
bscs_title Stopped = codes "Other BSCs"

-- where a BSC of that number and that class begins
unfoldable pub front_with : ℕ → List ℕ → List ℕ
front_with number class =
    codes "<article id=\"b" ++ (decimal number
    ++ (codes "\" class=\"b " ++ (class ++ (codes "\"><h3>BSC " ++ (decimal number ++ codes "</h3>")))))

-- where a BSC begins
unfoldable pub bsc_front : ℕ → BscFigures → List ℕ
bsc_front taken b = front_with b.row.bsc (standing_class (bsc_standing taken b))

-- whether orders go out over its link
abbrev pub link_class : BscFigures → List ℕ
link_class b = if is_in_service b then codes "up" else codes "down"

-- its link
unfoldable pub link_html : BscFigures → List ℕ
link_html b = codes "<p class=\"" ++ (link_class b ++ (codes "\">link " ++ link_word b))

-- how many cells it has
unfoldable pub cells_html : ℕ → List ℕ
cells_html count = codes "<p>cells <b>" ++ (decimal count ++ codes "</b></p>")

-- how many orders are pending for it
unfoldable pub pending_html : ℕ → List ℕ
pending_html count = codes "<p>pending <b>" ++ (decimal count ++ codes "</b></p>")

-- how many of its cells are down, where one is
unfoldable pub down_html : ℕ → List ℕ
down_html count = codes "<p class=\"down\">cells down <b>" ++ (decimal count ++ codes "</b></p>")

-- the same, where that is known
abbrev pub down_if : Option ℕ → List ℕ
down_if None = []
down_if (Some count) = if count == 0 then [] else down_html count

-- its cells, those that are down, and its orders
unfoldable pub bsc_counts_html : BscFigures → List ℕ
bsc_counts_html b = cells_html b.row.cells ++ (down_if b.down ++ pending_html b.row.pending)

-- a number of seconds
unfoldable pub seconds_html : ℕ → List ℕ
seconds_html n = codes ", out for <b>" ++ (decimal n ++ codes "</b> s</p>")

-- for how long something is out
abbrev pub out_for : ℕ → Option ℕ → List ℕ
out_for taken None = piece_html piece.ParagraphEnd
out_for taken (Some since) = seconds_html (taken - since)

-- since when a link is down, and for how long
unfoldable pub ended_html : ℕ → ℕ → List ℕ
ended_html taken since =
    piece_html piece.EndedFront
    ++ (time_of_day since ++ (piece_html piece.EndedMiddle ++ (decimal (taken - since) ++ piece_html piece.EndedEnd)))

-- since when its link is down, or for how long a RESET is out over it
abbrev pub link_since : ℕ → BscFigures → Option ℕ → List ℕ
link_since taken b None = out_for taken b.reset
link_since taken b (Some since) = ended_html taken since

-- what is in flight
unfoldable pub flight_html : FlightRow → List ℕ
flight_html f =
    codes "<p class=\"flight\">in flight: " ++ (flight_name f.kind
    ++ (codes " " ++ (decimal f.message_id ++ (codes " serial " ++ four_digits f.serial))))

-- what is in flight, and for how long it is out, if anything is
abbrev pub flight_if : ℕ → Option FlightRow → Option ℕ → List ℕ
flight_if taken None since = []
flight_if taken (Some f) since = flight_html f ++ out_for taken since

-- a BSC
unfoldable pub bsc_html : ℕ → BscFigures → List ℕ
bsc_html taken b =
    bsc_front taken b
    ++ (link_html b
    ++ (link_since taken b b.ended
    ++ (bsc_counts_html b ++ (flight_if taken b.row.flight b.since ++ piece_html piece.ArticleEnd))))

-- a BSC, if it stands so
abbrev pub bsc_if : ℕ → Standing → BscFigures → List ℕ
bsc_if taken s b = if bsc_stands taken s b then bsc_html taken b else []

-- the BSCs that stand so, where there are so many of them
unfoldable pub some_bscs : ℕ → List BscFigures → Standing → ℕ → List ℕ
some_bscs taken bscs s count =
    section_front s (bscs_title s) count
    ++ (flat_map (bsc_if taken s) bscs ++ piece_html piece.SectionEnd)

-- the BSCs that stand so, as a section
unfoldable pub bscs_section : ℕ → List BscFigures → Standing → List ℕ
bscs_section taken bscs s = section_if (some_bscs taken bscs s) (count_by (bsc_stands taken s) bscs)

-- all BSCs, the most urgent first
unfoldable pub bscs_html : ℕ → List BscFigures → List ℕ
bscs_html taken bscs =
    piece_html piece.BscsFront
    ++ (bscs_section taken bscs Wrong
    ++ (bscs_section taken bscs UnderWay ++ (bscs_section taken bscs InOrder ++ piece_html piece.BlockEnd)))
