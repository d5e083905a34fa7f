-- The faults of an information element and their numbers. In which order they are looked for is said in
-- Element, CellList, CountList and FailureList.
use Rattle.std.specs.Prelude.{ℕ}
use Rattle.cbsp_ie.specs.declared.ie_fault.IeFault.{IeFault}
use Rattle.cbsp_ie.specs.declared.ie_fault.IeFault.TheVariants.{Cut, UnknownElement, BadDiscriminator, PartialEntry, LongPage}

-- the number by which the fault is known
abbrev pub fault_number : IeFault → ℕ
fault_number Cut = 1
fault_number (UnknownElement id) = 2
fault_number (BadDiscriminator discriminator) = 3
fault_number PartialEntry = 4
fault_number LongPage = 5
