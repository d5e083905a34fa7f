-- A board on the page: a bar of its cells, and its numbers in words.
use Rattle.std.specs.Prelude.{ℕ, ◌==◌, List, [], ◌∷◌, ◌++◌, codes, decimal, if◌then◌else◌}
use Rattle.std.specs.List.{flat_map}
use Rattle.coverage_board.specs.declared.numbers.Numbers.{Numbers}
use Rattle.status_figures.specs.declared.area_board.AreaBoard.{AreaBoard}
use Rattle.status_pages.specs.Escapes.{escaped}
use Rattle.status_pages.specs.Pieces.{piece_html}
use Rattle.status_pages.specs.declared.piece.Piece.TheVariants as piece

-- a segment of that class, which grows with its number
unfoldable pub segment : List ℕ → ℕ → List ℕ
segment class n = codes "<i class=\"" ++ (class ++ (codes "\" style=\"flex-grow:" ++ (decimal n ++ codes "\"></i>")))

-- no cells, no segment
unfoldable pub segment_if : List ℕ → ℕ → List ℕ
segment_if class n = if n == 0 then [] else segment class n

-- the bar: the cells on air, those awaited and those that failed
unfoldable pub bar_html : Numbers → List ℕ
bar_html n =
    piece_html piece.BarFront
    ++ (segment_if (codes "o") n.on_air
    ++ (segment_if (codes "a") n.awaited
    ++ (segment_if (codes "f") n.failed ++ piece_html piece.BlockEnd)))

-- a number with its word
unfoldable pub figure : List ℕ → List ℕ → ℕ → List ℕ
figure class word n = codes "<span class=\"" ++ (class ++ (codes "\"><b>" ++ (decimal n ++ (codes "</b> " ++ (word ++ codes "</span> ")))))

-- a number that is always told; the class `z` has it recede where it is 0
unfoldable pub figure_of : List ℕ → List ℕ → ℕ → List ℕ
figure_of class word n = figure (if n == 0 then codes "z" else class) word n

-- a number that is told where it isn't 0
unfoldable pub figure_if : List ℕ → List ℕ → ℕ → List ℕ
figure_if class word n = if n == 0 then [] else figure class word n

-- the numbers of cells
unfoldable pub cell_figures : Numbers → List ℕ
cell_figures n =
    figure_of (codes "o") (codes "on air") n.on_air
    ++ (figure_of (codes "a") (codes "awaited") n.awaited ++ figure_of (codes "f") (codes "failed") n.failed)

-- what is left on air, and the broadcasts
unfoldable pub other_figures : Numbers → List ℕ
other_figures n = figure_if (codes "l") (codes "left") n.left ++ figure_if (codes "c") (codes "broadcasts reported") n.broadcasts

-- the board
unfoldable pub board_html : Numbers → List ℕ
board_html n = bar_html n ++ (piece_html piece.NumbersFront ++ (cell_figures n ++ (other_figures n ++ piece_html piece.ParagraphEnd)))

-- an area of a warning
unfoldable pub area_html : AreaBoard → List ℕ
area_html a = piece_html piece.AreaFront ++ (escaped a.name ++ (piece_html piece.AreaMiddle ++ (board_html a.numbers ++ piece_html piece.ItemEnd)))

-- the areas of a warning
unfoldable pub areas_html : List AreaBoard → List ℕ
areas_html areas = piece_html piece.AreasFront ++ (flat_map area_html areas ++ piece_html piece.ListEnd)
