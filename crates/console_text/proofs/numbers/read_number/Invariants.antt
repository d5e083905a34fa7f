use Rattle.std.proofs.Common.{◌≡◌, ◌<◌, ◌^◌, drop}
use Rattle.console_text.specs.Numbers.{decimal_from}
use Rattle.console_text.proofs.numbers.read_number.Given as goal

-- the digits so far are the value, and those that are left go on from it
abbrev pub invariant-loop-octet : goal.invariant-loop-octet
invariant-loop-octet l = record {
  read : decimal_from l.value (drop l.octet-index l.word) ≡ decimal_from 0 l.word;
  small : l.value < 10 ^ l.octet-index;
}
