use Rattle.std.proofs.Common.{◌≡◌, ◌-◌, ◌==◌}
use Rattle.std.specs.Prelude.{find}
use Rattle.std.specs.List.{range_with_len}
use Rattle.message_text.specs.Alphabet as table
use Rattle.message_text.proofs.alphabet.first_code.Given as goal

-- the codes passed are those of other letters
abbrev pub invariant-loop-code : goal.invariant-loop-code
invariant-loop-code l = find (λ code. table.letter_of code == l.letter) (range_with_len l.code (l.count - l.code)) ≡ find (λ code. table.letter_of code == l.letter) (range_with_len 0 l.count)
