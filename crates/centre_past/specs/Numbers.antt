-- The numbers of a warning: sums over the lines of each BSC and each cell.
use Rattle.std.specs.Prelude.{ℕ, ◌&&◌, List, Option, Some, None, Result, Ok, Err, if◌then◌else◌}
use Rattle.std.specs.Option.{option_map}
use Rattle.cell_register.specs.Register.{is_place}
use Rattle.common.specs.Sums.{sum_of, count_of}
use Rattle.common.specs.declared.cell.Cell.{Cell}
use Rattle.warning_book.specs.Book.{names, warning_of}
use Rattle.warning_book.specs.declared.warning.Warning.{Warning}
use Rattle.centre_events.specs.Counts.{count}
use Rattle.centre_events.specs.Cover.{covers, is_area, is_covered}
use Rattle.centre_events.specs.Lines.{stand}
use Rattle.centre_events.specs.Links.{bscs}
use Rattle.centre_events.specs.Past.{Past}
use Rattle.centre_events.specs.Places.{cells, place}
use Rattle.coverage_board.specs.Standings.{stands}
use Rattle.centre_events.specs.Warnings.{book_of, serials}
use Rattle.coverage_board.specs.declared.numbers.Numbers.{Numbers}
use Rattle.coverage_board.specs.declared.way.Way.{Way}
use Rattle.centre_events.specs.declared.refusal.Refusal.{Refusal}
use Rattle.centre_events.specs.declared.refusal.Refusal.TheVariants.{NoSuchArea, NoSuchWarning, AreaNotThere}
use Rattle.coverage_board.specs.declared.way.Way.TheVariants.{Awaited, OnAir, Failed, Left}

-- how many of the cells at the BSC are counted in that way
abbrev pub number_at : Past → Warning → Way → List Cell → ℕ → ℕ
number_at past w way cs b = count_of (λ c. stands way (stand past b w c)) cs

-- how many lines of the warning are counted in that way
abbrev pub number : Past → Warning → Way → ℕ
number past w way = sum_of (number_at past w way (cells past)) (bscs past)

-- how often the versions of the warning were broadcast in a cell at the BSC, where that is its place and an area of the
-- warning covers it
abbrev pub broadcasts_in : Past → Warning → ℕ → Cell → ℕ
broadcasts_in past w b c = if is_place (place past c) b && is_covered past w.areas c then sum_of (count past b c w.message_id) (serials w) else 0

-- in these cells at the BSC
abbrev pub broadcasts_at : Past → Warning → List Cell → ℕ → ℕ
broadcasts_at past w cs b = sum_of (broadcasts_in past w b) cs

-- in all cells at their places
abbrev pub broadcasts : Past → Warning → ℕ
broadcasts past w = sum_of (broadcasts_at past w (cells past)) (bscs past)

-- the numbers of the warning
abbrev pub total : Past → Warning → Numbers
total past w = record { awaited = number past w Awaited; on_air = number past w OnAir; failed = number past w Failed; left = number past w Left; broadcasts = broadcasts past w }

-- the numbers of the warning of that number, if it is in the book
abbrev pub board : Past → ℕ → Option Numbers
board past n = option_map (total past) (warning_of (book_of past) n)

-- The numbers of a warning and one of its areas: of the cells that this area covers. Nothing is left in an area.

-- how many of the cells at the BSC are counted in that way, and covered by the area
abbrev pub area_number_at : Past → Warning → List ℕ → Way → List Cell → ℕ → ℕ
area_number_at past w a way cs b = count_of (λ c. stands way (stand past b w c) && covers past a c) cs

-- how many lines of the warning are
abbrev pub area_number : Past → Warning → List ℕ → Way → ℕ
area_number past w a way = sum_of (area_number_at past w a way (cells past)) (bscs past)

-- how often the versions of the warning were broadcast in a cell at the BSC, where that is its place and the area covers
-- it
abbrev pub area_broadcasts_in : Past → Warning → List ℕ → ℕ → Cell → ℕ
area_broadcasts_in past w a b c = if is_place (place past c) b && covers past a c then sum_of (count past b c w.message_id) (serials w) else 0

-- in these cells at the BSC
abbrev pub area_broadcasts_at : Past → Warning → List ℕ → List Cell → ℕ → ℕ
area_broadcasts_at past w a cs b = sum_of (area_broadcasts_in past w a b) cs

-- in all cells at their places
abbrev pub area_broadcasts : Past → Warning → List ℕ → ℕ
area_broadcasts past w a = sum_of (area_broadcasts_at past w a (cells past)) (bscs past)

-- the numbers of the warning and the area
abbrev pub area_total : Past → List ℕ → Warning → Numbers
area_total past a w = record { awaited = area_number past w a Awaited; on_air = area_number past w a OnAir; failed = area_number past w a Failed; left = 0; broadcasts = area_broadcasts past w a }

-- those of a warning that is in the book and names the area
abbrev pub named_area : Past → List ℕ → Warning → Result Numbers Refusal
named_area past a w = if names a w then Ok (area_total past a w) else Err AreaNotThere

-- those of the warning of that number, if it is in the book
abbrev pub warning_area : Past → List ℕ → Option Warning → Result Numbers Refusal
warning_area past a None = Err NoSuchWarning
warning_area past a (Some w) = named_area past a w

-- what is answered for the numbers of the warning of that number and the area of that name
abbrev pub area_board : Past → ℕ → List ℕ → Result Numbers Refusal
area_board past n a = if is_area past a then warning_area past a (warning_of (book_of past) n) else Err NoSuchArea
