use Rattle.std.proofs.Common.{◌≡◌, ◌<◌, ◌^◌, ◌++◌, drop}
use Rattle.std.specs.List.{AllByRecursion}
use Rattle.message_text.specs.Writing as written
use Rattle.message_text.proofs.PackingLemmas.{pack_rest}
use Rattle.message_text.proofs.septets.packed.Given as goal

-- the octets so far and those to come are all
abbrev pub invariant-loop-septet : goal.invariant-loop-septet
invariant-loop-septet l = record {
  bits : l.bits < 8;
  held : l.held < 2 ^ l.bits;
  low : AllByRecursion (λ septet. septet < 128) (drop l.septet-index l.septets);
  whole : l.octets.items ++ pack_rest (drop l.septet-index l.septets) l.held l.bits ≡ written.packed l.septets;
}
