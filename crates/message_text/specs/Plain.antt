-- Letters that a keyboard or a text program puts for plain ones, by their numbers in Unicode.
use Rattle.std.specs.Prelude.{ℕ, nat_le, Bool, ◌==◌, ◌&&◌, ◌||◌, List, [], ◌∷◌, if◌then◌else◌}
use Rattle.std.specs.List.{flat_map}
use Rattle.std.specs.Str.{chars, encode_utf8_all, is_utf8}

-- hyphens and dashes, and the minus sign
abbrev pub is_dash : ℕ → Bool
is_dash x = (nat_le 0x2010 x && nat_le x 0x2015) || x == 0x2212

-- single quotation marks, high or low, and angled ones
abbrev pub is_single_quote : ℕ → Bool
is_single_quote x = (nat_le 0x2018 x && nat_le x 0x201B) || (nat_le 0x2039 x && nat_le x 0x203A)

-- double quotation marks, high or low, and angled ones
abbrev pub is_double_quote : ℕ → Bool
is_double_quote x = (nat_le 0x201C x && nat_le x 0x201F) || (x == 0xAB || x == 0xBB)

-- spaces at which no line is broken: the common one, that of the width of a digit, and the narrow one
abbrev pub is_no_break_space : ℕ → Bool
is_no_break_space x = x == 0xA0 || (x == 0x2007 || x == 0x202F)

-- one plain letter: `-`, `'`, `"` or a space; any other letter is plain
abbrev pub plain_one : ℕ → ℕ
plain_one x =
    if is_dash x then 0x2D
    else if is_single_quote x then 0x27
    else if is_double_quote x then 0x22
    else if is_no_break_space x then 0x20
    else x

-- the plain letters of a letter: three full stops of an ellipsis
abbrev pub plain_letters : ℕ → List ℕ
plain_letters x = if x == 0x2026 then 0x2E ∷ 0x2E ∷ 0x2E ∷ [] else plain_one x ∷ []

-- a text in its plain letters; octets that are no UTF-8 stay
abbrev pub plain_text : List ℕ → List ℕ
plain_text text = if is_utf8 text then encode_utf8_all (flat_map plain_letters (chars text)) else text
