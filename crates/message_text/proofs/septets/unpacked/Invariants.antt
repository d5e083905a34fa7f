use Rattle.std.proofs.Common.{◌≡◌, ◌<◌, ◌^◌, ◌++◌, drop}
use Rattle.message_text.specs.Septets.{whole_septets}
use Rattle.message_text.proofs.PackingLemmas.{unpack_rest}
use Rattle.message_text.proofs.septets.unpacked.Given as goal

-- the septets so far and those to come are all
abbrev pub invariant-loop-octet : goal.invariant-loop-octet
invariant-loop-octet l = record {
  bits : l.bits < 7;
  held : l.held < 2 ^ l.bits;
  whole : l.septets.items ++ unpack_rest (drop l.octet-index l.octets) l.held l.bits ≡ whole_septets l.octets;
}
