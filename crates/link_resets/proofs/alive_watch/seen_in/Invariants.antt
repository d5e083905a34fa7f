use Rattle.std.proofs.Common.{◌≡◌, ◌||◌, length}
use Rattle.std.specs.List.{list_any}
use Rattle.std.specs.Prelude.{nat_eq}
use Rattle.framing.specs.declared.frame.Frame.{Frame}
use Rattle.link_resets.proofs.alive_watch.seen_in.Given as goal

-- what was seen so far, or is in the frames that are left, is what is in all
abbrev pub invariant-loop-frame : goal.invariant-loop-frame
invariant-loop-frame l = record {
  asks : (l.asks || list_any (λ (f : Frame). nat_eq f.kind 22) l.framer.frames) ≡ list_any (λ (f : Frame). nat_eq f.kind 22) l.initial.framer.frames;
  answers : (l.answers || list_any (λ (f : Frame). nat_eq f.kind 23) l.framer.frames) ≡ list_any (λ (f : Frame). nat_eq f.kind 23) l.initial.framer.frames;
  rest : l.framer.rest ≡ l.initial.framer.rest;
}

abbrev pub decreases-loop-frame : goal.decreases-loop-frame
decreases-loop-frame l = length l.framer.frames
