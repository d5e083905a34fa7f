use Rattle.std.proofs.Common.{◌≡◌, drop}
use Rattle.line_faults.specs.Faults.{is_digits}
use Rattle.line_faults.proofs.finding.is_digits.Given as goal

-- the word has digits alone if what is ahead has
abbrev pub invariant-loop-octet : goal.invariant-loop-octet
invariant-loop-octet l = is_digits (drop l.octet-index l.word) ≡ is_digits l.word
