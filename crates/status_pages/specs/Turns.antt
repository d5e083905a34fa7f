-- Letters that turn the direction of the text around them (Unicode, UAX 9): U+200E, U+200F, U+202A to U+202E and U+2066 to U+2069. In
-- UTF-8 each has three octets: 226 128, or 226 129 where it is above U+203F, and a third.
use Rattle.std.specs.Prelude.{ℕ, ◌+◌, ◌*◌, ◌/◌, ◌%◌, Bool, ◌==◌, ◌&&◌, ◌||◌, nat_le, nat_lt, List, [], ◌∷◌, ◌++◌, codes, slice_index_or, if◌then◌else◌}

-- the octet at that place, or 0 where there is none
abbrev pub octet_at : List ℕ → ℕ → ℕ
octet_at octets place = slice_index_or octets place 0

-- the third octet of U+200E, U+200F, or one of U+202A to U+202E
abbrev pub is_mark : ℕ → Bool
is_mark third = third == 142 || (third == 143 || (nat_le 170 third && nat_le third 174))

-- the third octet of one of U+2066 to U+2069
abbrev pub is_isolate : ℕ → Bool
is_isolate third = nat_le 166 third && nat_le third 169

-- the octets behind the first one end such a letter
abbrev pub ends_turn : List ℕ → Bool
ends_turn behind =
    (octet_at behind 0 == 128 && is_mark (octet_at behind 1)) || (octet_at behind 0 == 129 && is_isolate (octet_at behind 1))

-- an octet begins such a letter, by the octets behind it
abbrev pub turns : ℕ → List ℕ → Bool
turns first behind = first == 226 && ends_turn behind

-- the lowest eight bits of the letter's number; the others are 20 in hexadecimal digits
abbrev pub low_bits : List ℕ → ℕ
low_bits behind = (octet_at behind 0 % 4) * 64 + octet_at behind 1 % 64

-- a hexadecimal digit
abbrev pub digit_of : ℕ → ℕ
digit_of n = if nat_lt n 10 then 48 + n else 55 + n

-- the letter by its number, as `[U+202E]`
abbrev pub turn_number : List ℕ → List ℕ
turn_number behind =
    codes "[U+20" ++ (digit_of (low_bits behind / 16) ∷ digit_of (low_bits behind % 16) ∷ codes "]")
