use Rattle.std.proofs.Common.{◌≡◌, ◌≤◌, drop, length}
use Rattle.areas.specs.Areas.{selects}
use Rattle.coverage_board.specs.AreaSets.{mask}
use Rattle.centre_lines.proofs.coverages.digits_of.Given as goal

-- the digits from here on are those of the areas that cover the cell
abbrev pub invariant-loop-place : goal.invariant-loop-place
invariant-loop-place l = record {
  within : l.place ≤ length l.coverages;
  digits : l.digits.bits ≡ mask (λ s. selects s l.c) (drop l.place l.coverages);
}

abbrev pub decreases-loop-place : goal.decreases-loop-place
decreases-loop-place l = l.place
