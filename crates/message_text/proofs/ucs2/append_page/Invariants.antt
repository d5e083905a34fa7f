use Rattle.std.proofs.Common.{◌≡◌, length}
use Rattle.std.specs.String.{string_bytes}
use Rattle.message_text.specs.Reading.{ucs2_letters}
use Rattle.message_text.proofs.ReadingLemmas.{text_with}
use Rattle.message_text.proofs.ucs2.append_page.Given as goal

abbrev pub decreases-loop-rest : goal.decreases-loop-rest
decreases-loop-rest l = length l.rest

-- the letters so far and those to come are all
abbrev pub invariant-loop-rest : goal.invariant-loop-rest
invariant-loop-rest l = text_with (string_bytes l.text) (ucs2_letters l.rest) ≡ text_with (string_bytes l.initial.text) (ucs2_letters l.initial.rest)
