use Rattle.std.proofs.Common.{◌≡◌, ◌&&◌, drop}
use Rattle.std.specs.Cmp.Lexicographic.{pointwise}
use Rattle.mirror.specs.Blank.{state_eq}
use Rattle.mirror.proofs.line.are_same.Given as goal

-- whether those passed and those to come are the same is whether all are
abbrev pub invariant-loop-index : goal.invariant-loop-index
invariant-loop-index l = (l.is_same && pointwise state_eq (drop l.index l.states) (drop l.index l.others)) ≡ pointwise state_eq l.states l.others
