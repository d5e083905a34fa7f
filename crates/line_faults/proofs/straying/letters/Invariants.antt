use Rattle.std.proofs.Common.{◌≡◌, ◌+◌, ◌≤◌, drop}
use Rattle.line_faults.specs.Strays.{letters}
use Rattle.line_faults.proofs.straying.letters.Given as goal

-- the letters so far, and those ahead, are all of them
abbrev pub invariant-loop-octet : goal.invariant-loop-octet
invariant-loop-octet l = record {
  counted : l.count + letters (drop l.octet-index l.octets) ≡ letters l.octets;
  most : l.count ≤ l.octet-index;
}
