use Rattle.std.proofs.Common.{◌≡◌, ◌-◌, take, drop}
use Rattle.centre_past.specs.Legal.{all_entries}
use Rattle.office.proofs.copying.copy_entries.Given as goal

-- the entries before the place are copied, and the centre stays as it was
abbrev pub invariant-loop-place : goal.invariant-loop-place
invariant-loop-place l = record {
  copied : l.copies.items ≡ take (l.place - l.after) (drop l.after (all_entries l.initial.centre.known));
  same : l.centre.known ≡ l.initial.centre.known;
}
