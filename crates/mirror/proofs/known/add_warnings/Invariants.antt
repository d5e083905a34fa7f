use Rattle.std.proofs.Common.{◌≡◌, ◌||◌, ◌++◌, not}
use Rattle.mirror.proofs.CellLineLemmas.{FromCell}
use Rattle.mirror.specs.Index.{kept_warnings}
use Rattle.mirror.proofs.known.add_warnings.Given as goal

-- the warnings appended, and those of the cell's slots that come, are those of the cell's slots
abbrev pub invariant-loop-slot : goal.invariant-loop-slot
invariant-loop-slot l =
    FromCell l.fn.b l.fn.c l.slot-iterator
    × ((l.warnings.items ++ kept_warnings l.fn.b l.fn.c (λ h. not l.fn.only_held || h) l.slot-iterator) ≡ l.initial.warnings.items ++ kept_warnings l.fn.b l.fn.c (λ h. not l.fn.only_held || h) l.slots.entries)
