-- When the octets that a BSC sent are refused.
use Rattle.std.specs.Prelude.{ℕ, List, []}
use Rattle.framing.specs.Framers.{Framing, Refuses}
use Rattle.framing.specs.declared.fault.FrameFault.{FrameFault}
use Rattle.framing.specs.declared.frame.Frame.{Frame}

-- the octets came behind those of a frame that had begun, and a framer refuses them, which holds this rest then
abbrev pub RefusesOctets : List ℕ → List ℕ → List ℕ → FrameFault → Type 0
RefusesOctets begun octets rest fault = (frames : List Frame) × Refuses (record { frames = []; rest = begun }) octets (record { frames = frames; rest = rest }) fault
