use Rattle.std.proofs.Common.{◌≡◌, true, take}
use Rattle.std.specs.List.{list_all}
use Rattle.message_text.specs.Alphabet.{has_code}
use Rattle.message_text.proofs.measuring.first_uncoded.Given as goal

-- the letters passed have codes
abbrev pub invariant-loop-place : goal.invariant-loop-place
invariant-loop-place l = list_all has_code (take l.place l.letters) ≡ true
