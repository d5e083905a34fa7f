-- A warning on the page.
use Rattle.std.specs.Prelude.{ℕ, Bool, ◌==◌, ◌/◌, List, [], ◌∷◌, ◌++◌, Option, Some, None, codes, count_by, decimal, if◌then◌else◌, length, nat_lt}
use Rattle.std.specs.List.{flat_map}
use Rattle.std.specs.Option.{option_map}
use Rattle.std.specs.Str.{encode_utf8_all}
use Rattle.hex.specs.Hex.{encode_lower}
use Rattle.centre_past.specs.declared.lists.warning_row.WarningRow.{WarningRow}
use Rattle.message_text.specs.Reading.{read_text}
use Rattle.status_figures.specs.Words.{four_digits, kind_name, state_name}
use Rattle.status_figures.specs.declared.picture.Picture.{Picture}
use Rattle.status_figures.specs.declared.warning_figures.WarningFigures.{WarningFigures}
use Rattle.status_pages.specs.Boards.{areas_html, board_html}
use Rattle.status_pages.specs.Escapes.{escaped}
use Rattle.status_pages.specs.Standings.{is_stuck, is_unreached, warning_standing, warning_stands}
use Rattle.status_pages.specs.declared.standing.Standing.{Standing}
use Rattle.status_pages.specs.declared.standing.Standing.TheVariants.{Pressing, Unreached, Silent, Wrong, UnderWay, InOrder, Stopped}
use Rattle.warning_book.specs.declared.cbs_content.CbsContent.{CbsContent}
use Rattle.warning_book.specs.declared.content.Content.{Content}
use Rattle.warning_book.specs.declared.content.Content.TheVariants.{Cbs, Emergency}
use Rattle.warning_book.specs.declared.emergency_content.EmergencyContent.{EmergencyContent}
use Rattle.status_pages.specs.Pieces.{piece_html}
use Rattle.status_pages.specs.Times.{time_of_day}
use Rattle.status_pages.specs.declared.piece.Piece.TheVariants as piece

-- the class of what stands so
abbrev pub standing_class : Standing → List ℕ
standing_class Pressing = codes "bad"
standing_class Unreached = codes "bad"
standing_class Silent = codes "bad"
standing_class Wrong = codes "bad"
standing_class UnderWay = codes "busy"
standing_class InOrder = codes "good"
standing_class Stopped = codes "off"

-- what a list of warnings that stand so is called
abbrev pub warnings_title : Standing → List ℕ
warnings_title Pressing = codes "Emergency warnings to look at"
warnings_title Unreached = codes "Warnings that reach no cell"
warnings_title Silent = codes "Silent warnings"
warnings_title Wrong = codes "Warnings to look at"
warnings_title UnderWay = codes "Warnings under way"
warnings_title InOrder = codes "Warnings on air"
warnings_title Stopped = codes "Stopped warnings"

-- the octets of a page
unfoldable pub page_digits : List ℕ → List ℕ
page_digits page = encode_lower page ++ codes " "

-- the octets of pages whose text can't be read: 8-bit data, compressed text, or text that isn't whole
unfoldable pub octets_html : List (List ℕ) → List ℕ
octets_html pages = piece_html piece.OctetsFront ++ (flat_map page_digits pages ++ piece_html piece.ParagraphEnd)

-- a text
unfoldable pub text_html : List ℕ → List ℕ
text_html text = piece_html piece.TextFront ++ (escaped text ++ piece_html piece.ParagraphEnd)

-- the text, where it can be read, or else the octets of the pages
abbrev pub shown : Option (List ℕ) → List (List ℕ) → List ℕ
shown (Some text) pages = text_html text
shown None pages = octets_html pages

-- the text of pages
unfoldable pub cbs_html : CbsContent → List ℕ
cbs_html c = shown (option_map encode_utf8_all (read_text c.dcs c.pages)) c.pages

-- what a warning type warns of (TS 23.041, 9.3.24): its upper seven bits
abbrev pub hazard : ℕ → List ℕ
hazard kind =
    if kind == 0 then codes "earthquake"
    else (if kind == 1 then codes "tsunami"
    else (if kind == 2 then codes "earthquake and tsunami"
    else (if kind == 3 then codes "test" else codes "other")))

-- an emergency warning has no text
unfoldable pub emergency_html : EmergencyContent → List ℕ
emergency_html e =
    codes "<p class=\"text\">Emergency: " ++ (hazard (e.warning_type / 512) ++ (codes " (warning type " ++ (four_digits e.warning_type ++ codes ")</p>")))

-- what the current version broadcasts
abbrev pub content_html : Option Content → List ℕ
content_html None = codes "<p class=\"octets\">No content.</p>"
content_html (Some (Cbs c)) = cbs_html c
content_html (Some (Emergency e)) = emergency_html e

-- a serial number, or a dash
abbrev pub serial_html : Option ℕ → List ℕ
serial_html None = codes "-"
serial_html (Some s) = four_digits s

-- a number of a warning
unfoldable pub number_html : ℕ → List ℕ
number_html number = codes "<h3><b>Warning " ++ (decimal number ++ codes "</b>")

-- a message identifier, in decimal and in hexadecimal digits
unfoldable pub message_html : ℕ → List ℕ → List ℕ
message_html id digits = codes " <span>message " ++ (decimal id ++ (codes " (hex " ++ (digits ++ codes ")</span>")))

-- those of a warning
unfoldable pub name_html : WarningRow → List ℕ
name_html w = number_html w.number ++ message_html w.message_id (four_digits w.message_id)

-- a serial number, a kind and a state
unfoldable pub version_with : List ℕ → List ℕ → List ℕ → List ℕ
version_with serial kind state =
    codes " <span>serial " ++ (serial ++ (codes "</span> <span>" ++ (kind ++ (codes "</span> <span>" ++ (state ++ codes "</span></h3>")))))

-- its serial number, its kind, and whether it was stopped
unfoldable pub version_html : WarningRow → List ℕ
version_html w = version_with (serial_html w.serial) (kind_name w.kind) (state_name w.is_active)

-- where a warning of that number and that class begins
unfoldable pub front_with : ℕ → List ℕ → List ℕ
front_with number class = codes "<article id=\"w" ++ (decimal number ++ (codes "\" class=\"w " ++ (class ++ codes "\">")))

-- where a warning begins
unfoldable pub warning_front : Picture → WarningFigures → List ℕ
warning_front p w = front_with w.sheet.row.number (standing_class (warning_standing p w))

-- it is said of an active warning that reaches nobody that it does, and what there is to do
unfoldable pub unreached_html : WarningRow → List ℕ
unreached_html w = if is_unreached w then piece_html piece.Unreached else []

-- it is said of a stuck warning that it is, and what there is to do
unfoldable pub stuck_html : Picture → WarningRow → List ℕ
stuck_html p w = if is_stuck p w then piece_html piece.Stuck else []

-- in how many cells the warning is silent
unfoldable pub silent_html : ℕ → List ℕ
silent_html count = piece_html piece.SilentFront ++ (decimal count ++ piece_html piece.SilentEnd)

-- the same, where it is silent in one
abbrev pub silent_if : ℕ → List ℕ
silent_if count = if count == 0 then [] else silent_html count

-- since when the warning is over
unfoldable pub over_html : ℕ → List ℕ
over_html since = piece_html piece.OverFront ++ (time_of_day since ++ piece_html piece.OverEnd)

-- the same, where it is
abbrev pub over_if : Option ℕ → List ℕ
over_if None = []
over_if (Some since) = over_html since

-- what is said of a warning
unfoldable pub notes_html : Picture → WarningFigures → List ℕ
notes_html p w =
    silent_if w.silent ++ (over_if w.over ++ (unreached_html w.sheet.row ++ stuck_html p w.sheet.row))

-- there are so few warnings that each is shown as a whole: 16 or fewer
abbrev pub are_few : Picture → Bool
are_few p = nat_lt (length p.warnings) 17

-- where the part begins of which a line is left where it is folded: where there are more, each is, until somebody opens it
unfoldable pub fold_front : Picture → List ℕ
fold_front p = if are_few p then piece_html piece.OpenFront else piece_html piece.FoldedFront

-- what stands above its content
unfoldable pub warning_head : Picture → WarningFigures → List ℕ
warning_head p w = warning_front p w ++ (fold_front p ++ (name_html w.sheet.row ++ version_html w.sheet.row))

-- its board and those of its areas
unfoldable pub warning_boards : WarningFigures → List ℕ
warning_boards w =
    board_html w.sheet.row.numbers ++ (areas_html w.areas ++ (piece_html piece.FoldEnd ++ piece_html piece.ArticleEnd))

-- its content, up to where the fold begins
unfoldable pub shown_content : Option Content → List ℕ
shown_content content = content_html content ++ piece_html piece.FoldMiddle

-- a warning
unfoldable pub warning_html : Picture → WarningFigures → List ℕ
warning_html p w =
    warning_head p w ++ (shown_content w.sheet.content ++ (notes_html p w ++ warning_boards w))

-- where a section begins
unfoldable pub section_class : Standing → List ℕ
section_class s = codes "<section class=\"" ++ (standing_class s ++ codes "\">")

-- what it is called, and how many there are
unfoldable pub section_title : List ℕ → ℕ → List ℕ
section_title title count = codes "<h2>" ++ (title ++ (codes " <b>" ++ (decimal count ++ codes "</b></h2><div>")))

-- both
unfoldable pub section_front : Standing → List ℕ → ℕ → List ℕ
section_front s title count = section_class s ++ section_title title count

-- a warning, if it stands so
abbrev pub warning_if : Picture → Standing → WarningFigures → List ℕ
warning_if p s w = if warning_stands p s w then warning_html p w else []

-- the warnings that stand so, where there are so many of them
unfoldable pub some_warnings : Picture → List WarningFigures → Standing → ℕ → List ℕ
some_warnings p warnings s count =
    section_front s (warnings_title s) count
    ++ (flat_map (warning_if p s) warnings ++ piece_html piece.SectionEnd)

-- a section, or nothing where there are none
abbrev pub section_if : (ℕ → List ℕ) → ℕ → List ℕ
section_if section count = if count == 0 then [] else section count

-- the warnings that stand so, as a section
unfoldable pub warnings_section : Picture → List WarningFigures → Standing → List ℕ
warnings_section p warnings s = section_if (some_warnings p warnings s) (count_by (warning_stands p s) p.warnings)

-- those at which somebody has to look: first the emergencies, then what reaches nobody, then the silent ones
unfoldable pub urgent_sections : Picture → List WarningFigures → List ℕ
urgent_sections p warnings =
    warnings_section p warnings Pressing
    ++ (warnings_section p warnings Unreached
    ++ (warnings_section p warnings Silent ++ warnings_section p warnings Wrong))

-- the others, the most urgent first
unfoldable pub other_sections : Picture → List WarningFigures → List ℕ
other_sections p warnings =
    warnings_section p warnings UnderWay
    ++ (warnings_section p warnings InOrder ++ warnings_section p warnings Stopped)

-- all warnings of the picture, in that order
unfoldable pub warnings_html : Picture → List WarningFigures → List ℕ
warnings_html p warnings =
    piece_html piece.WarningsFront
    ++ (urgent_sections p warnings ++ (other_sections p warnings ++ piece_html piece.BlockEnd))
