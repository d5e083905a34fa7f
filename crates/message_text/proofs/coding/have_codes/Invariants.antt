use Rattle.std.proofs.Common.{◌≡◌, drop}
use Rattle.std.specs.List.{list_all}
use Rattle.message_text.specs.Alphabet.{has_code}
use Rattle.message_text.proofs.coding.have_codes.Given as goal

-- the letters passed have codes
abbrev pub invariant-loop-letter : goal.invariant-loop-letter
invariant-loop-letter l = list_all has_code (drop l.letter-index l.letters) ≡ list_all has_code l.letters
