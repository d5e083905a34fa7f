use Rattle.std.proofs.Common.{◌≡◌, ◌<◌, ◌++◌, drop, false}
use Rattle.std.specs.List.{AllByRecursion}
use Rattle.std.specs.Str.{encode_utf8_all}
use Rattle.std.specs.String.{string_bytes}
use Rattle.message_text.specs.Reading.{spelled}
use Rattle.message_text.proofs.seven_bit.append_letters.Given as goal

-- the letters so far and those to come are all
abbrev pub invariant-loop-septet : goal.invariant-loop-septet
invariant-loop-septet l = record {
  low : AllByRecursion (λ septet. septet < 128) (drop l.septet-index l.septets);
  read : string_bytes l.text ++ encode_utf8_all (spelled l.escaped (drop l.septet-index l.septets)) ≡ string_bytes l.initial.text ++ encode_utf8_all (spelled false l.septets);
}
