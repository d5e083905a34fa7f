use Rattle.std.proofs.Common.{◌≡◌, ◌++◌, drop, string_bytes}
use Rattle.message_identifiers.specs.Texts.{after_commas}
use Rattle.message_identifiers.proofs.unusual.push_more_numbers.Given as goal

-- the text so far, and the numbers ahead, are the whole text
abbrev pub invariant-loop-number : goal.invariant-loop-number
invariant-loop-number l = string_bytes l.text ++ after_commas (drop l.number-index l.numbers) ≡ string_bytes l.initial.text ++ after_commas l.numbers
