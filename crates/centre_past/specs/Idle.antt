-- What keeps a stopped warning in the book, by what a centre keeps beside its journal.
use Rattle.std.specs.Prelude.{◌≡◌, ◌≤◌, ℕ, Bool, List}
use Rattle.std.specs.List.{list_any}
use Rattle.cell_register.specs.Register.{State}
use Rattle.common.specs.declared.cell.Cell.{Cell}
use Rattle.kept_tables.specs.Tables.{SameTables, Tables}
use Rattle.mirror.specs.Known as kept
use Rattle.mirror.specs.Table.{Table}
use Rattle.warning_book.specs.declared.warning.Warning.{Warning}
use Rattle.centre_past.specs.Links.{flight_in}
use Rattle.centre_events.specs.Known.{is_known}
use Rattle.centre_events.specs.Past.{Past}
use Rattle.centre_events.specs.Reported.{flight_names}
use Rattle.centre_past.specs.declared.link.Link.{Link}

-- what is in flight to one of these BSCs names a version of the warning
abbrev pub is_flying : List Link → Warning → List ℕ → Bool
is_flying ls w bs = list_any (λ b. flight_names w (flight_in ls b)) bs

-- the cells that are known at each BSC are those of the past
pub record AreKnownOf (past : Past) (t : Table) (r : State) : Type 0 where
  pub known : (b : ℕ) (c : Cell) → kept.is_known t r b c ≡ is_known past b c

-- nothing changes in the tables but how often lines were read, which does not fall
pub record OnlyReads (old new : Tables) : Type 0 where
  pub lines : new.lines.lines ≡ old.lines.lines
  pub downs : new.lines.downs ≡ old.lines.downs
  pub same : SameTables old new
  pub meter : old.lines.meter ≤ new.lines.meter

-- both have the same lines, the same cells down, the same actions pending and the same numbers: nothing but the meter
-- differs, and it did not fall
pub record AsBefore (t u : Tables) : Type 0 where
  pub lines : u.lines.lines ≡ t.lines.lines
  pub downs : u.lines.downs ≡ t.lines.downs
  pub same : SameTables t u
  pub meter : t.lines.meter ≤ u.lines.meter
