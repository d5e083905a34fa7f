use Rattle.std.proofs.Common.{◌≡◌, length}
use Rattle.std.specs.Option.{option_or}
use Rattle.link_resets.specs.Resets.{first_answer}
use Rattle.link_resets.proofs.reset_watch.first_answer.Given as goal

-- the answer so far, or the first in the frames that are left, is the first in all
abbrev pub invariant-loop-frame : goal.invariant-loop-frame
invariant-loop-frame l = record {
  first : option_or l.answer (first_answer l.framer.frames) ≡ first_answer l.initial.framer.frames;
  rest : l.framer.rest ≡ l.initial.framer.rest;
}

abbrev pub decreases-loop-frame : goal.decreases-loop-frame
decreases-loop-frame l = length l.framer.frames
