-- The septets that letters take, and the room of a page.
use Rattle.std.specs.Prelude.{ℕ, ◌+◌, ◌*◌, ◌/◌, ◌%◌, ◌==◌, List, [], ◌∷◌, ◌++◌, if◌then◌else◌, Option, Some, None, length}
use Rattle.message_text.specs.Alphabet.{escape, code_of, extended_code}
use Rattle.message_text.specs.Septets.{carriage_return, number, digits}
use Rattle.message_text.specs.declared.coding.Coding.{Coding}
use Rattle.message_text.specs.declared.coding.Coding.TheVariants.{SevenBit, Ucs2}

-- the septets of a letter of the extension table
abbrev pub escaped : Option ℕ → List ℕ
escaped None = []
escaped (Some code) = escape ∷ code ∷ []

-- the septet of the code, or where there is none those of the letter in the extension table
abbrev pub plain_or : Option ℕ → List ℕ → List ℕ
plain_or None others = others
plain_or (Some code) others = code ∷ []

-- the septets of a letter; none where it has no code
unfoldable pub letter_septets : ℕ → List ℕ
letter_septets letter = plain_or (code_of letter) (escaped (extended_code letter))

-- the two octets of a letter in UCS2
abbrev pub letter_octets : ℕ → List ℕ
letter_octets letter = letter / 256 ∷ letter % 256 ∷ []

-- septets with a carriage return where seven bits would be left in the last octet
abbrev pub filled : List ℕ → List ℕ
filled septets = if length septets % 8 == 7 then (septets ++ carriage_return ∷ []) else septets

-- the octets that septets fill
abbrev pub packed : List ℕ → List ℕ
packed septets = digits 256 ((7 * length septets + 7) / 8) (number 128 septets)

-- how many septets, or letters in UCS2, a page has room for
abbrev pub room : Coding → ℕ
room SevenBit = 93
room Ucs2 = 41

-- how much of the room a letter takes
abbrev pub width : Coding → ℕ → ℕ
width SevenBit letter = length (letter_septets letter)
width Ucs2 letter = 1
