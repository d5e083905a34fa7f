-- What is known of a warning whose failures are looked for.
use Rattle.std.specs.Prelude.{◌≡◌, ℕ, true, List, Some}
use Rattle.std.specs.List.{list_any}
use Rattle.areas.specs.Areas.{selects}
use Rattle.areas.specs.declared.selector.Selector.{Selector}
use Rattle.common.specs.declared.cell.Cell.{Cell}
use Rattle.kept_tables.specs.Tables.{Tables}
use Rattle.mirror.specs.Table.{down_at}
use Rattle.warning_book.specs.Book.{current_of, warning_of}
use Rattle.warning_book.specs.declared.kind.Kind.{Kind}
use Rattle.warning_book.specs.declared.warning.Warning.{Warning}
use Rattle.centre_events.specs.Cover.{is_covered}
use Rattle.centre_events.specs.Down.{is_down}
use Rattle.centre_events.specs.Past.{Past}
use Rattle.centre_events.specs.Warnings.{book_of}

-- the cells that are down by the tables are those of the past
abbrev pub AreDownsOf : Past → Tables → Type 0
AreDownsOf past t = (k : Kind) (b : ℕ) (c : Cell) → down_at t.lines k b c ≡ is_down past k b c

-- the warning is in the book and active, that is the serial number of its current version, and these lists of selectors are
-- those of its areas: one of them selects a cell exactly where an area of the warning covers it
pub record IsWanted (past : Past) (w : Warning) (serial : ℕ) (coverages : List (List Selector)) : Type 0 where
  pub found : warning_of (book_of past) w.number ≡ Some w
  pub active : w.active ≡ true
  pub current : current_of w ≡ Some serial
  pub covered : (c : Cell) → list_any (λ s. selects s c) coverages ≡ is_covered past w.areas c
