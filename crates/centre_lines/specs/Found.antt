-- What is read once of a warning, for all its lines on which an event bears.
use Rattle.std.specs.Prelude.{◌≡◌, ℕ, Bool, ◌&&◌, List, [], ◌∷◌, Option, Some, None, IfSome, map, if◌then◌else◌}
use Rattle.areas.specs.Areas.{selects, selectors_of}
use Rattle.areas.specs.declared.area.Area.{Area}
use Rattle.areas.specs.declared.selector.Selector.{Selector}
use Rattle.common.specs.declared.cell.Cell.{Cell}
use Rattle.coverage_board.specs.AreaSets.{mask, names_at}
use Rattle.coverage_board.specs.Parts.{has_areas}
use Rattle.coverage_board.specs.declared.area_bits.AreaBits.{AreaBits}
use Rattle.kept_tables.specs.Facts.{no_facts}
use Rattle.kept_tables.specs.declared.line_facts.LineFacts.{LineFacts}
use Rattle.mirror.specs.declared.line.Line.{Line}
use Rattle.warning_book.specs.Book as book
use Rattle.warning_book.specs.Book.{current_of, warning_of}
use Rattle.warning_book.specs.declared.warning.Warning.{Warning}
use Rattle.centre_events.specs.Warnings.{serials}

-- what is read of a warning for its lines
pub record WarningHead : Type 0 where
  pub message_id : ℕ
  pub serials : List ℕ
  pub areas : List (List ℕ)
  pub serial : Option ℕ
  pub active : Bool

-- that of a warning in the book
abbrev pub head_of : Warning → WarningHead
head_of w = record { message_id = w.message_id; serials = serials w; areas = w.areas; serial = current_of w; active = w.active }

-- what is read of the line of a warning, if the book has it, in a cell that is down or not, and registered at the BSC or not,
-- where the areas with these digits cover the cell
abbrev pub facts_before : Line → Bool → Bool → ℕ → Option WarningHead → LineFacts
facts_before line down here bits None = record (no_facts down here) { line = line }
facts_before line down here bits (Some w) = record {
  line = line;
  message_id = w.message_id;
  versions = w.serials;
  wanted = if w.active && (here && has_areas (names_at bits w.areas)) then w.serial else None;
  down = down;
  areas = names_at bits w.areas;
  here = here;
  active = w.active;
}

-- a warning's number, the selectors of each of its areas, and what is read of it before an edit, if that was asked for
pub record Found : Type 0 where
  pub warning : ℕ
  pub selectors : List (List Selector)
  pub before : Option WarningHead

-- what was found is what the warning has, if there is one
abbrev pub IsOf : List Area → Option Warning → Found → Type 0
IsOf l None x = Unit {0}
IsOf l (Some w) x = (x.selectors ≡ map (selectors_of l) w.areas) × IfSome x.before (λ h. h ≡ head_of w)

-- so of each of the warnings
abbrev pub AreFound : List Area → book.State → List Found → Type 0
AreFound l st [] = Unit {0}
AreFound l st (x ∷ xs) = IsOf l (warning_of st x.warning) x × AreFound l st xs

-- if there are digits, they are those of each cell of the location area, by what selects it
abbrev pub AreOfLac : List (List Selector) → ℕ → Option AreaBits → Type 0
AreOfLac xs lac found = IfSome found (λ n. (c : Cell) → c.lac ≡ lac → n.bits ≡ mask (λ s. selects s c) xs)
