use Rattle.std.proofs.Common.{◌≡◌, ◌≤◌, ◌<◌, ◌+◌, ◌^◌, length}
use Rattle.std.specs.List.{list_any}
use Rattle.mirror.specs.Lines.{lines_at}
use Rattle.mirror.specs.Present.{is_present_in}
use Rattle.mirror.specs.Table.{counted_all}
use Rattle.mirror.proofs.presences.is_present_among.Given as goal

-- by the lines to come the version may be on air just where it may by all, the lines counted and those to come are no
-- more than all, with those to come each was counted, and the meter hasn't fallen and fits 64 bits
abbrev pub invariant-loop-slot : goal.invariant-loop-slot
invariant-loop-slot l =
    (list_any (λ e. is_present_in l.serial e.1) (lines_at l.slot-iterator l.lines) ≡ list_any (λ e. is_present_in l.serial e.1) (lines_at l.fn.slots l.lines))
    × (l.meter + length l.slot-iterator ≤ l.initial.meter + length l.fn.slots)
    × (counted_all (length l.slot-iterator) l.meter ≡ counted_all (length l.fn.slots) l.initial.meter)
    × (l.initial.meter ≤ l.meter)
    × (l.meter < 2 ^ 64)
