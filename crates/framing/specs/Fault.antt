-- The numbers of the faults.
use Rattle.std.specs.Prelude.{ℕ, Option, Some, None}
use Rattle.framing.specs.declared.fault.FrameFault.{FrameFault}
use Rattle.framing.specs.declared.fault.FrameFault.TheVariants.{TooLong, Memory}

-- the number by which a fault is known
abbrev pub number_of : FrameFault → Option ℕ
number_of (TooLong length) = Some 1
number_of Memory = None
