-- What a centre keeps beside its journal is what the past says.
use Rattle.std.specs.Prelude.{◌≡◌, ℕ}
use Rattle.common.specs.declared.cell.Cell.{Cell}
use Rattle.kept_tables.specs.Consistent.{Consistent}
use Rattle.mirror.specs.Table.{down_at}
use Rattle.centre_events.specs.Down.{is_down}
use Rattle.centre_past.specs.Facts.{facts}
use Rattle.centre_past.specs.Idle.{OnlyReads}
use Rattle.centre_past.specs.Links.{AreLinksOf}
use Rattle.centre_events.specs.Kept.{IsRegisterOf, AreAreasOf}
use Rattle.centre_events.specs.Past.{Past}
use Rattle.centre_events.specs.Warnings.{book_of}
use Rattle.centre_past.specs.declared.kept.Kept.{Kept}
use Rattle.warning_book.specs.declared.kind.Kind.{Kind}

-- What is kept is what the past says: of each BSC, cell and area the register, the areas, the links, what is in flight and
-- which cells are down for warnings of each kind, the book as a whole, and the tables line by line.
pub record IsKept (past : Past) (s : Kept) : Type 0 where
  pub registered : IsRegisterOf past s.plan.register
  pub selected : AreAreasOf past s.plan.areas
  pub booked : s.plan.book ≡ book_of past
  pub linked : AreLinksOf past s.links
  pub downs : (k : Kind) (b : ℕ) (c : Cell) → down_at s.tables.lines k b c ≡ is_down past k b c
  pub tables : Consistent s.tables (facts past)

-- Nothing changes but how often lines were read.
pub record OnlyReadsIn (old new : Kept) : Type 0 where
  pub plan : new.plan ≡ old.plan
  pub links : new.links ≡ old.links
  pub tables : OnlyReads old.tables new.tables
