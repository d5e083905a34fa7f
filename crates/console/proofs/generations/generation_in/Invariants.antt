use Rattle.std.proofs.Common.{◌≡◌, drop}
use Rattle.console.specs.Generations.{generation_of}
use Rattle.console.proofs.generations.generation_in.Given as goal

-- the BSC is not among those before
abbrev pub invariant-loop-one : goal.invariant-loop-one
invariant-loop-one l = generation_of (drop l.one-index l.kept) l.bsc ≡ generation_of l.kept l.bsc
