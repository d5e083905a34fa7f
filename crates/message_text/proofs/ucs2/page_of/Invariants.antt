use Rattle.std.proofs.Common.{◌≡◌, ◌++◌, drop}
use Rattle.std.specs.List.{AllByRecursion, flat_map}
use Rattle.message_text.specs.Texts.{IsInUcs2}
use Rattle.message_text.specs.Writing.{letter_octets}
use Rattle.message_text.proofs.ucs2.page_of.Given as goal

-- the octets so far and those to come are all
abbrev pub invariant-loop-letter : goal.invariant-loop-letter
invariant-loop-letter l = record {
  all : AllByRecursion IsInUcs2 (drop l.letter-index l.letters);
  made : l.octets.items ++ flat_map letter_octets (drop l.letter-index l.letters) ≡ flat_map letter_octets l.letters;
}
