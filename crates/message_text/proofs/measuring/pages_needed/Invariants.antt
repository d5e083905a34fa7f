use Rattle.std.proofs.Common.{◌-◌, ◌≤◌, length, take}
use Rattle.message_text.specs.Measures.{IsCutInto}
use Rattle.message_text.specs.Texts.{Needs}
use Rattle.message_text.proofs.CuttingLemmas.{Reaches}
use Rattle.message_text.proofs.measuring.pages_needed.Given as goal

abbrev pub decreases-loop-written : goal.decreases-loop-written
decreases-loop-written l = length l.letters - l.written

-- the letters passed are cut into so many pieces, and no fewer pieces have as many
abbrev pub invariant-loop-written : goal.invariant-loop-written
invariant-loop-written l = record {
  place : l.written ≤ length l.letters;
  few : l.count ≤ l.written;
  cut : IsCutInto l.coding (take l.written l.letters) l.count;
  reach : Reaches l.coding l.letters l.count l.written;
  fewest : Needs l.coding l.letters l.count;
}
