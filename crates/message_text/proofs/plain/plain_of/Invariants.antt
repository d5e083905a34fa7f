use Rattle.std.proofs.Common.{◌≡◌, ◌++◌, drop, string_bytes}
use Rattle.std.specs.List.{flat_map}
use Rattle.std.specs.Str.{encode_utf8_all}
use Rattle.message_text.specs.Plain.{plain_letters}
use Rattle.message_text.proofs.plain.plain_of.Given as goal

-- the text so far, and the letters ahead, are all of it
abbrev pub invariant-loop-letter : goal.invariant-loop-letter
invariant-loop-letter l = string_bytes l.text ++ encode_utf8_all (flat_map plain_letters (drop l.letter-index l.letters)) ≡ encode_utf8_all (flat_map plain_letters l.letters)
