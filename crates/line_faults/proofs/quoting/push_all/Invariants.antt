use Rattle.std.proofs.Common.{◌≡◌, ◌++◌, drop, string_bytes}
use Rattle.std.specs.List.{flat_map}
use Rattle.line_faults.specs.Texts.{escaped}
use Rattle.line_faults.proofs.quoting.push_all.Given as goal

-- the text so far, and what is shown of the octets ahead, are all of it
abbrev pub invariant-loop-octet : goal.invariant-loop-octet
invariant-loop-octet l = string_bytes l.text ++ flat_map escaped (drop l.octet-index l.octets) ≡ string_bytes l.initial.text ++ flat_map escaped l.octets
