use Rattle.std.proofs.Common.{◌≡◌, ◌++◌, drop}
use Rattle.std.specs.List.{flat_map}
use Rattle.link_resets.specs.Frames.{kill_frame, reset_frame}
use Rattle.link_resets.proofs.frames.reset_frames.Given as goal

-- the octets so far and those to come are all
abbrev pub invariant-loop-key : goal.invariant-loop-key
invariant-loop-key l = l.octets.items ++ flat_map kill_frame (drop l.key-index l.keys) ≡ reset_frame ++ flat_map kill_frame l.keys
