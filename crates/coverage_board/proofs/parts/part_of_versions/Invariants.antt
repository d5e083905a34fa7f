use Rattle.std.proofs.Common.{◌≡◌, ◌<◌, ◌^◌, ◌+◌, drop, take}
use Rattle.std.specs.List.{list_any}
use Rattle.common.specs.Sums.{sum_of}
use Rattle.coverage_board.specs.Parts.{broadcast_count}
use Rattle.coverage_board.specs.Reading.{stand_of}
use Rattle.coverage_board.specs.Standings.{is_unwanted}
use Rattle.coverage_board.proofs.parts.part_of_versions.Given as goal

-- whether one of the versions passed is left; and where the whole count fits, the count so far and that of the versions to
-- come are that count
abbrev pub invariant-loop-serial : goal.invariant-loop-serial
invariant-loop-serial l = record {
  left : l.left ≡ list_any (is_unwanted (stand_of l.stand).seen) (take l.serial-index (stand_of l.stand).seen.versions);
  counted : broadcast_count (stand_of l.stand) < 2 ^ 64 → l.broadcasts + sum_of (stand_of l.stand).counts (drop l.serial-index (stand_of l.stand).seen.versions) ≡ broadcast_count (stand_of l.stand);
}
