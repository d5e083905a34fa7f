use Rattle.std.proofs.Common.{◌≡◌, ℕ, ◌+◌, List, ◌++◌, Option, length}
use Rattle.journal_file.specs.Reading.{Passing}
use Rattle.journal_file.proofs.reading.take_piece.Given as goal

-- what is gone from the rest came, and its lines passed
abbrev pub invariant-loop-line : goal.invariant-loop-line
invariant-loop-line g l = record {
  count : l.loading.octets + length l.rest ≡ l.initial.loading.octets + length l.piece;
  passes : (octets : List ℕ) (before : Option (List (List ℕ))) → Passing l.heading octets l.initial.loading before (g.T.TakeLine.taken l.initial.taker)
      → (front : List ℕ) × (l.piece ≡ front ++ l.rest) × Passing l.heading (octets ++ front) l.loading before (g.T.TakeLine.taken l.taker);
}

abbrev pub decreases-loop-line : goal.decreases-loop-line
decreases-loop-line g l = length l.rest
