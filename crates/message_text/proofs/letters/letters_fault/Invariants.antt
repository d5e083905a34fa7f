use Rattle.std.proofs.Common.{◌≡◌, drop}
use Rattle.message_text.specs.Texts as texts
use Rattle.message_text.proofs.letters.letters_fault.Given as goal

-- the letters passed have no fault
abbrev pub invariant-loop-letter : goal.invariant-loop-letter
invariant-loop-letter l = texts.letters_fault (drop l.letter-index l.letters) ≡ texts.letters_fault l.letters
