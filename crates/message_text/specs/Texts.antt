-- Which texts have pages, and in which coding.
use Rattle.std.specs.Prelude.{◌≡◌, ℕ, true, ◌<◌, ◌≤◌, ◌==◌, nat_lt, List, [], ◌∷◌, Option, Some, None, if◌then◌else◌, length, ⊤}
use Rattle.std.specs.List.{sum_by, flat_map, list_all, AllByRecursion}
use Rattle.std.specs.Char.{is_control, IsScalar}
use Rattle.std.specs.Str.{IsUtf8, chars}
use Rattle.message_text.specs.Alphabet.{has_code}
use Rattle.message_text.specs.Writing.{room, width}
use Rattle.message_text.specs.declared.coding.Coding.{Coding}
use Rattle.message_text.specs.declared.coding.Coding.TheVariants.{SevenBit, Ucs2}
use Rattle.message_text.specs.declared.fault.TextFault.{TextFault}
use Rattle.message_text.specs.declared.fault.TextFault.TheVariants.{NotUtf8, Empty, ControlLetter, OutsideUcs2, TooLong, Memory}

-- why no page can have the letter; a line feed is the one control letter of a text
abbrev pub letter_fault : ℕ → Option TextFault
letter_fault letter =
    if letter == 0x0A then None
    else (if is_control letter then Some ControlLetter
    else (if nat_lt letter 0x10000 then None else Some OutsideUcs2))

-- this fault, or where there is none that one
abbrev pub or_else : Option TextFault → Option TextFault → Option TextFault
or_else None other = other
or_else (Some fault) other = Some fault

-- why the first letter that no page can have is none for a page
abbrev pub letters_fault : List ℕ → Option TextFault
letters_fault [] = None
letters_fault (letter ∷ letters) = or_else (letter_fault letter) (letters_fault letters)

-- the coding of a text: septets where each letter has a code
abbrev pub coding_for : List ℕ → Coding
coding_for letters = if list_all has_code letters then SevenBit else Ucs2

-- the data coding scheme that is written: no language is named, or UCS2 without compression or class (5)
abbrev pub dcs_of : Coding → ℕ
dcs_of SevenBit = 0x0F
dcs_of Ucs2 = 0x48

-- the letter has septets; it is in UCS2
abbrev pub HasSeptets : ℕ → Type 0
HasSeptets letter = (letter_fault letter ≡ None) × (has_code letter ≡ true)

abbrev pub IsInUcs2 : ℕ → Type 0
IsInUcs2 letter = (letter < 0x10000) × IsScalar letter

-- the coding has the letter
abbrev pub CanCode : Coding → ℕ → Type 0
CanCode SevenBit letter = HasSeptets letter
CanCode Ucs2 letter = IsInUcs2 letter

-- a page has 1 to 82 octets
abbrev pub HasRoom : List ℕ → Type 0
HasRoom page = (1 ≤ length page) × (length page ≤ 82)

-- the pieces are the letters, cut between letters, and each has room in a page
pub record AreCut (coding : Coding) (letters : List ℕ) (pieces : List (List ℕ)) : Type 0 where
  pub whole : flat_map (λ piece. piece) pieces ≡ letters
  pub each : AllByRecursion (λ piece. sum_by (width coding) piece ≤ room coding) pieces

-- however the letters are cut, so many pages are needed
abbrev pub Needs : Coding → List ℕ → ℕ → Type 0
Needs coding letters count = (pieces : List (List ℕ)) → AreCut coding letters pieces → count ≤ length pieces

-- however the letters are cut, more than fifteen pages are needed
abbrev pub NeedsMore : List ℕ → Type 0
NeedsMore letters = (pieces : List (List ℕ)) → AreCut (coding_for letters) letters pieces → 15 < length pieces

-- the text can be written: nothing but its length or want of memory is against it
pub record IsPlain (text : List ℕ) : Type 0 where
  pub utf8 : IsUtf8 text
  pub some : 0 < length text
  pub letters : letters_fault (chars text) ≡ None

-- the text has this fault
abbrev pub IsTextFault : List ℕ → TextFault → Type 0
IsTextFault text NotUtf8 = IsUtf8 text → ⊥
IsTextFault text Empty = text ≡ []
IsTextFault text ControlLetter = IsUtf8 text × (letters_fault (chars text) ≡ Some ControlLetter)
IsTextFault text OutsideUcs2 = IsUtf8 text × (letters_fault (chars text) ≡ Some OutsideUcs2)
IsTextFault text TooLong = IsPlain text × NeedsMore (chars text)
IsTextFault text Memory = ⊤
