-- That two views have the same part in the tables.
use Rattle.std.specs.Prelude.{◌≡◌, ℕ, List}
use Rattle.kept_tables.specs.Facts.{deeds_of, total_of_line, area_of_line}
use Rattle.kept_tables.specs.declared.line_facts.LineFacts.{LineFacts}

-- the same is kept of the line, is to be ordered on it, and is added to the numbers
pub record SamePart (f g : LineFacts) : Type 0 where
  pub line : f.line ≡ g.line
  pub deeds : deeds_of f ≡ deeds_of g
  pub total : total_of_line f ≡ total_of_line g
  pub area : (a : List ℕ) → area_of_line a f ≡ area_of_line a g
