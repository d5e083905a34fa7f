use Rattle.std.proofs.Common.{◌≡◌, ℕ, take}
use Rattle.common.specs.declared.cell.Cell.{Cell}
use Rattle.mirror.specs.Table.{down_at}
use Rattle.centre_lines.specs.Following.{SameLines, down_after}
use Rattle.warning_book.specs.declared.kind.Kind.{Kind}
use Rattle.centre_lines.proofs.downs.mark_downs.Given as goal

-- the cells at the spots passed are marked
abbrev pub invariant-loop-spot : goal.invariant-loop-spot
invariant-loop-spot l = ((k : Kind) (d : ℕ) (e : Cell) → down_at l.tables.lines k d e ≡ down_after l.event l.answer (take l.spot-index l.spots) k d e (down_at l.initial.tables.lines k d e)) × SameLines l.initial.tables l.tables
