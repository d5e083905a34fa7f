-- What is said of a line that is bad. The text is of printable ASCII, whatever was typed.
use Rattle.std.specs.Prelude.{◌≡◌, ℕ, true, ◌+◌, ◌/◌, ◌%◌, ◌-◌, ◌==◌, nat_le, nat_lt, Bool, false, ◌&&◌, not, List, [], ◌∷◌, ◌++◌, ◌<◌, ◌^◌, length, take, Option, Some, None, bytes_eq, codes, decimal, if◌then◌else◌}
use Rattle.std.specs.List.{flat_map, list_all}
use Rattle.line_faults.specs.Forms.{bounds_of, is_identifier_or_name}
use Rattle.line_faults.specs.declared.bounds.Bounds.{Bounds}
use Rattle.line_faults.specs.declared.line_fault.LineFault.{LineFault}
use Rattle.line_faults.specs.declared.line_fault.LineFault.TheVariants as fault
use Rattle.line_faults.specs.declared.stray.Stray.{Stray}
use Rattle.line_faults.specs.declared.stray.Stray.TheVariants.{Tab, NoBreakSpace, ByteOrderMark}

-- a letter of printable ASCII
abbrev pub is_printable : ℕ → Bool
is_printable x = nat_le 32 x && nat_le x 126

abbrev pub IsPrintable : List ℕ → Type 0
IsPrintable text = list_all is_printable text ≡ true

-- an octet that is shown as it is: a printable letter of ASCII that isn't a backslash, which is 92
abbrev pub is_plain : ℕ → Bool
is_plain x = is_printable x && not (x == 92)

-- the lower-case hexadecimal digit of the four lowest bits
abbrev pub hex_digit : ℕ → ℕ
hex_digit x = if nat_lt (x % 16) 10 then 48 + x % 16 else 97 + (x % 16 - 10)

-- any other is shown as `\x` and two digits
abbrev pub escaped : ℕ → List ℕ
escaped x = if is_plain x then x ∷ [] else 92 ∷ 120 ∷ hex_digit (x / 16) ∷ hex_digit x ∷ []

-- the first forty octets of a word
abbrev pub shown : List ℕ → List ℕ
shown word = flat_map escaped (take 40 word) ++ (if nat_lt 40 (length word) then codes ".." else [])

-- the words, with a space before each
abbrev pub listed : List (List ℕ) → List ℕ
listed words = flat_map (λ word. 32 ∷ shown word) words

-- the numbers that may stand there
abbrev pub bounds_text : Option Bounds → List ℕ
bounds_text None = codes "what may stand there"
bounds_text (Some b) = decimal b.least ++ (codes " to " ++ decimal b.most)

abbrev pub stray_name : Stray → List ℕ
stray_name Tab = codes "a tab"
stray_name NoBreakSpace = codes "a no-break space (octets C2 A0)"
stray_name ByteOrderMark = codes "a byte order mark (octets EF BB BF)"

abbrev pub nearest_text : Option (List ℕ) → List ℕ
nearest_text None = codes "; help lists all lines"
nearest_text (Some word) = codes "; nearest is " ++ (shown word ++ codes "; help lists all lines")

-- the second words that may stand there
abbrev pub second_text : List ℕ → List (List ℕ) → List ℕ
second_text word choices =
    if length word == 0 then codes "word 2 is missing, one of:" ++ listed choices
    else codes "word 2: '" ++ (shown word ++ (codes "' is none of:" ++ listed choices))

-- no text, or other words are missing
abbrev pub is_text : List (List ℕ) → Bool
is_text (name ∷ []) = bytes_eq name (codes "TEXT")
is_text other = false

abbrev pub missing_text : List (List ℕ) → List ℕ
missing_text names = if is_text names then codes "there is no text" else codes "missing:" ++ listed names

-- a word by its position and its name
abbrev pub word_text : ℕ → List ℕ → List ℕ → List ℕ
word_text position name word = codes "word " ++ (decimal position ++ (codes ", " ++ (shown name ++ (codes ": '" ++ (shown word ++ codes "'")))))

-- which words may stand there besides a number
abbrev pub or_name_text : List ℕ → List ℕ
or_name_text name = if is_identifier_or_name name then codes " and no name of one" else []

-- what may stand at the place of that name
unfoldable pub words_text : List ℕ → List ℕ
words_text name = bounds_text (bounds_of name) ++ or_name_text name

-- what is said of the fault
abbrev pub fault_text : LineFault → List ℕ
fault_text (fault.Stray stray column) = stray_name stray ++ (codes " at column " ++ (decimal column ++ codes ": words are separated by spaces"))
fault_text (fault.NoSuchWord word nearest) = codes "no line begins with '" ++ (shown word ++ (codes "'" ++ nearest_text nearest))
fault_text (fault.NoSuchSecond word choices) = second_text word choices
fault_text (fault.NotNumber position name word) = word_text position name word ++ (codes " is no number from " ++ words_text name)
fault_text (fault.OutOfRange position name word) = word_text position name word ++ (codes " is not " ++ bounds_text (bounds_of name))
fault_text (fault.Missing names) = missing_text names
fault_text (fault.TooMany count) = codes "words too many: " ++ decimal count
fault_text fault.NotHere = codes "only a console at the socket file takes this line"

-- the numbers that it tells fit 64 bits
abbrev pub IsCounted : LineFault → Type 0
IsCounted (fault.Stray stray column) = column < 2 ^ 64
IsCounted (fault.NotNumber position name word) = position < 2 ^ 64
IsCounted (fault.OutOfRange position name word) = position < 2 ^ 64
IsCounted (fault.TooMany count) = count < 2 ^ 64
IsCounted other = Unit {0}
