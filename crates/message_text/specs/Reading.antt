-- The letters that the pages of a cell broadcast message have (TS 23.038, 5 and 6).
use Rattle.std.specs.Prelude.{ℕ, Bool, true, false, ◌+◌, ◌*◌, ◌/◌, ◌%◌, ◌==◌, ◌&&◌, ◌||◌, nat_lt, List, [], ◌∷◌, ◌++◌, Option, Some, None, if◌then◌else◌}
use Rattle.std.specs.Option.{option_map}
use Rattle.std.specs.Int.{is_in_range}
use Rattle.message_text.specs.Alphabet.{escape, letter_of, escaped_letter}
use Rattle.message_text.specs.Septets.{septets_of}
use Rattle.message_text.specs.declared.coding.Coding.{Coding}
use Rattle.message_text.specs.declared.coding.Coding.TheVariants.{SevenBit, Ucs2}

-- the data coding scheme says that the pages have septets and nothing else: a language in groups 0000, 0010
-- and 0011, and no compression in groups 0100, 0101 and 1111
abbrev pub has_septets : ℕ → Bool
has_septets dcs =
    dcs / 16 == 0 || dcs / 16 == 2 || dcs / 16 == 3
    || ((dcs / 16 == 4 || dcs / 16 == 5 || dcs / 16 == 15) && nat_lt (dcs % 16) 4)

-- the data coding scheme says that the pages are UCS2 and nothing else
abbrev pub has_ucs2 : ℕ → Bool
has_ucs2 dcs = (dcs / 16 == 4 || dcs / 16 == 5) && is_in_range 8 11 (dcs % 16)

-- how the data coding scheme says that the letters are coded
abbrev pub coding_of : ℕ → Option Coding
coding_of dcs = if has_septets dcs then Some SevenBit else (if has_ucs2 dcs then Some Ucs2 else None)

-- the letters that septets spell, where they stand behind an escape and where not; an escape with nothing
-- behind it is a space
abbrev pub spelled : Bool → List ℕ → List ℕ
spelled true [] = 0x20 ∷ []
spelled false [] = []
spelled true (septet ∷ rest) = escaped_letter septet ∷ spelled false rest
spelled false (septet ∷ rest) =
    if septet == escape then spelled true rest else (letter_of septet ∷ spelled false rest)

-- the letters that octets spell, two for each, the higher one first; half a letter and half of a pair are none
abbrev pub ucs2_letters : List ℕ → Option (List ℕ)
ucs2_letters [] = Some []
ucs2_letters (octet ∷ []) = None
ucs2_letters (high ∷ low ∷ rest) =
    if is_in_range 0xD800 0xDFFF (high * 256 + low)
    then None
    else option_map (λ letters. (high * 256 + low) ∷ letters) (ucs2_letters rest)

-- the letters of a page
abbrev pub read_page : Coding → List ℕ → Option (List ℕ)
read_page SevenBit octets = Some (spelled false (septets_of octets))
read_page Ucs2 octets = ucs2_letters octets

-- these letters, and behind them those
abbrev pub followed_by : Option (List ℕ) → Option (List ℕ) → Option (List ℕ)
followed_by None rest = None
followed_by (Some letters) rest = option_map (λ others. letters ++ others) rest

-- the letters of all pages, if each can be read
abbrev pub read_pages : Coding → List (List ℕ) → Option (List ℕ)
read_pages coding [] = Some []
read_pages coding (page ∷ pages) = followed_by (read_page coding page) (read_pages coding pages)

-- the letters of the pages in a coding, where there is one
abbrev pub read_by : Option Coding → List (List ℕ) → Option (List ℕ)
read_by None pages = None
read_by (Some coding) pages = read_pages coding pages

-- the letters of the pages under a data coding scheme
abbrev pub read_text : ℕ → List (List ℕ) → Option (List ℕ)
read_text dcs pages = read_by (coding_of dcs) pages
