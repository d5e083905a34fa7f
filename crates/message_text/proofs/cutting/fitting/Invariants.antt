use Rattle.std.proofs.Common.{◌≡◌, ◌≤◌, take}
use Rattle.std.specs.List.{sum_by}
use Rattle.message_text.specs.Writing as written
use Rattle.message_text.proofs.cutting.fitting.Given as goal

-- the letters so far have room
abbrev pub invariant-loop-count : goal.invariant-loop-count
invariant-loop-count l = record {
  taken : l.taken ≡ sum_by (written.width l.coding) (take l.count l.letters);
  fits : l.taken ≤ written.room l.coding;
}
