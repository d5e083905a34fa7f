use Rattle.std.proofs.Common.{length}
use Rattle.framing.proofs.StreamLemmas.{CutSoFar}
use Rattle.framing.proofs.framer.cut_frames.Given as goal

-- what is gone from the rest are the frames that came
abbrev pub invariant-loop-kind : goal.invariant-loop-kind
invariant-loop-kind l = CutSoFar l.octets l.initial.ready.items l.ready.items l.rest

abbrev pub decreases-loop-kind : goal.decreases-loop-kind
decreases-loop-kind l = length l.rest
