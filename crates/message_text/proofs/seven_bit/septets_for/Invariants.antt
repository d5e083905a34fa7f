use Rattle.std.proofs.Common.{◌≡◌, ◌++◌, drop}
use Rattle.std.specs.List.{flat_map}
use Rattle.message_text.specs.Writing.{letter_septets}
use Rattle.message_text.proofs.seven_bit.septets_for.Given as goal

-- the septets so far and those to come are all
abbrev pub invariant-loop-letter : goal.invariant-loop-letter
invariant-loop-letter l = l.septets.items ++ flat_map letter_septets (drop l.letter-index l.letters) ≡ flat_map letter_septets l.letters
