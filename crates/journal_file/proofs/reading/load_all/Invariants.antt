use Rattle.std.proofs.Common.{◌≡◌, ℕ, ◌*◌, ◌≤◌, List, Option, length}
use Rattle.journal_file.specs.Reading.{ReadsOn}
use Rattle.journal_file.proofs.reading.load_all.Given as goal

-- what came passed, and it isn't much
abbrev pub invariant-loop-turn : goal.invariant-loop-turn
invariant-loop-turn g l = record {
  size : length l.piece ≡ 65536;
  count : l.loading.octets ≤ l._turn * 65536;
  reads : (given : Option (List ℕ)) (before : Option (List (List ℕ))) → ReadsOn l.heading given (g.S.Source.remaining l.initial.source) l.initial.loading before (g.T.TakeLine.taken l.initial.taker)
      → ReadsOn l.heading given (g.S.Source.remaining l.source) l.loading before (g.T.TakeLine.taken l.taker);
}
