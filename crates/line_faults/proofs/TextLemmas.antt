-- What is said of a line is of printable ASCII.
use Rattle.std.proofs.Common.{◌≡◌, ◌∙◌, ℕ, ◌+◌, ◌/◌, ◌%◌, ◌<◌, ◌≤◌, ◌^◌, ◌&&◌, eqb, true, false, List, [], ◌∷◌, ◌++◌, length, take, refl, ap, ap₂, Bool, Option, Some, None, cond, arith, bytes_eq, codes, decimal}
use Rattle.std.specs.List.{flat_map, list_all}
use Rattle.std.proofs.lemmas.Fmt.{decimal_by_steps}
use Rattle.std.proofs.lemmas.Grind.{common_steps}
use Rattle.std.proofs.lemmas.List.Folds.{list_all-append}
use Rattle.line_faults.specs.Forms.{bounds_of, is_identifier_or_name, is_octet, is_two_octets}
use Rattle.line_faults.specs.Texts.{IsCounted, IsPrintable, bounds_text, escaped, fault_text, hex_digit, is_printable, is_text, listed, nearest_text, or_name_text, second_text, shown, stray_name, word_text, words_text}
use Rattle.line_faults.specs.declared.bounds.Bounds.{Bounds}
use Rattle.line_faults.specs.declared.line_fault.LineFault.{LineFault}
use Rattle.line_faults.specs.declared.line_fault.LineFault.TheVariants as fault
use Rattle.line_faults.specs.declared.stray.Stray.{Stray}
use Rattle.line_faults.specs.declared.stray.Stray.TheVariants.{Tab, NoBreakSpace, ByteOrderMark}

-- two texts, one behind the other
pub both : (xs ys : List ℕ) → list_all is_printable xs ≡ true → list_all is_printable ys ≡ true → list_all is_printable (xs ++ ys) ≡ true
both xs ys one other = list_all-append is_printable xs ys ∙ ap₂ (λ a b. a && b) one other

-- a letter between these
within : (x : ℕ) → 32 ≤ x → x ≤ 126 → is_printable x ≡ true
within x low high = grind (arith, common_steps)

-- a number
pub decimal_printable : (n : ℕ) → n < 2 ^ 64 → list_all is_printable (decimal n) ≡ true
decimal_printable n small =
    decimal_by_steps (λ n ds. list_all is_printable ds ≡ true)
    (λ n lt. ap (λ b. b && true) (within (48 + n) (omega arith) (omega arith)))
    (λ n ds big is. both ds ((48 + n % 10) ∷ []) is (ap (λ b. b && true) (within (48 + n % 10) (omega arith) (omega arith))))
    n small

-- an octet as it is shown
digit_printable : (x : ℕ) → is_printable (hex_digit x) ≡ true
digit_printable x = grind (arith, common_steps)

pub escaped_printable : (x : ℕ) → list_all is_printable (escaped x) ≡ true
escaped_printable x = grind (arith, common_steps, digit_printable x, digit_printable (x / 16))

all_printable : (xs : List ℕ) → list_all is_printable (flat_map escaped xs) ≡ true
all_printable [] = refl
all_printable (x ∷ xs) = both (escaped x) (flat_map escaped xs) (escaped_printable x) (all_printable xs)

dots_printable : (b : Bool) → list_all is_printable (cond b (codes "..") []) ≡ true
dots_printable true = refl
dots_printable false = refl

-- a word
pub shown_printable : (word : List ℕ) → list_all is_printable (shown word) ≡ true
shown_printable word = both (flat_map escaped (take 40 word)) _ (all_printable (take 40 word)) (dots_printable _)

-- words
pub listed_printable : (words : List (List ℕ)) → list_all is_printable (listed words) ≡ true
listed_printable [] = refl
listed_printable (word ∷ words) = both (32 ∷ shown word) (listed words) (shown_printable word) (listed_printable words)

-- the numbers that may stand at a place
choice : (b : Bool) (x y : Option Bounds) → IsPrintable (bounds_text x) → IsPrintable (bounds_text y) → IsPrintable (bounds_text (cond b x y))
choice true x y one other = one
choice false x y one other = other

-- the bounds of the names behind each of those that `bounds_of` looks at
abbrev behind_octets : List ℕ → Option Bounds
behind_octets name = cond (is_two_octets name) (Some (record { least = 0; most = 65535 })) None

abbrev behind_category : List ℕ → Option Bounds
behind_category name = cond (is_octet name) (Some (record { least = 0; most = 255 })) (behind_octets name)

abbrev behind_scope : List ℕ → Option Bounds
behind_scope name = cond (bytes_eq name (codes "CATEGORY")) (Some (record { least = 0; most = 2 })) (behind_category name)

abbrev behind_warning : List ℕ → Option Bounds
behind_warning name = cond (bytes_eq name (codes "SCOPE")) (Some (record { least = 0; most = 3 })) (behind_scope name)

abbrev behind_bsc : List ℕ → Option Bounds
behind_bsc name = cond (bytes_eq name (codes "WARNING")) (Some (record { least = 0; most = 4294967295 })) (behind_warning name)

numbers_printable : (low high : ℕ) → low < 2 ^ 64 → high < 2 ^ 64 → IsPrintable (bounds_text (Some (record { least = low; most = high })))
numbers_printable low high small large =
    both (decimal low) (codes " to " ++ decimal high) (decimal_printable low small) (both (codes " to ") (decimal high) refl (decimal_printable high large))

octets_printable : (name : List ℕ) → IsPrintable (bounds_text (behind_octets name))
octets_printable name = choice (is_two_octets name) (Some (record { least = 0; most = 65535 })) None (numbers_printable 0 65535 (omega arith) (omega arith)) refl

category_printable : (name : List ℕ) → IsPrintable (bounds_text (behind_category name))
category_printable name = choice (is_octet name) (Some (record { least = 0; most = 255 })) (behind_octets name) (numbers_printable 0 255 (omega arith) (omega arith)) (octets_printable name)

scope_printable : (name : List ℕ) → IsPrintable (bounds_text (behind_scope name))
scope_printable name = choice (bytes_eq name (codes "CATEGORY")) (Some (record { least = 0; most = 2 })) (behind_category name) (numbers_printable 0 2 (omega arith) (omega arith)) (category_printable name)

warning_printable : (name : List ℕ) → IsPrintable (bounds_text (behind_warning name))
warning_printable name = choice (bytes_eq name (codes "SCOPE")) (Some (record { least = 0; most = 3 })) (behind_scope name) (numbers_printable 0 3 (omega arith) (omega arith)) (scope_printable name)

bsc_printable : (name : List ℕ) → IsPrintable (bounds_text (behind_bsc name))
bsc_printable name = choice (bytes_eq name (codes "WARNING")) (Some (record { least = 0; most = 4294967295 })) (behind_warning name) (numbers_printable 0 4294967295 (omega arith) (omega arith)) (warning_printable name)

bounds_printable : (name : List ℕ) → IsPrintable (bounds_text (bounds_of name))
bounds_printable name = choice (bytes_eq name (codes "BSC")) (Some (record { least = 1; most = 65535 })) (behind_bsc name) (numbers_printable 1 65535 (omega arith) (omega arith)) (bsc_printable name)

stray_printable : (stray : Stray) → IsPrintable (stray_name stray)
stray_printable Tab = refl
stray_printable NoBreakSpace = refl
stray_printable ByteOrderMark = refl

nearest_printable : (nearest : Option (List ℕ)) → IsPrintable (nearest_text nearest)
nearest_printable None = refl
nearest_printable (Some word) =
    both (codes "; nearest is ") (shown word ++ codes "; help lists all lines") refl
    (both (shown word) (codes "; help lists all lines") (shown_printable word) refl)

-- a text by a choice
either : (b : Bool) (x y : List ℕ) → IsPrintable x → IsPrintable y → IsPrintable (cond b x y)
either true x y one other = one
either false x y one other = other

-- a word between two texts
between : (front word rest : List ℕ) → IsPrintable front → IsPrintable rest → IsPrintable (front ++ (shown word ++ rest))
between front word rest before behind = both front (shown word ++ rest) before (both (shown word) rest (shown_printable word) behind)

missing_second : (choices : List (List ℕ)) → IsPrintable (codes "word 2 is missing, one of:" ++ listed choices)
missing_second choices = both (codes "word 2 is missing, one of:") (listed choices) refl (listed_printable choices)

other_second : (word : List ℕ) (choices : List (List ℕ)) → IsPrintable (codes "word 2: '" ++ (shown word ++ (codes "' is none of:" ++ listed choices)))
other_second word choices =
    between (codes "word 2: '") word (codes "' is none of:" ++ listed choices) refl (both (codes "' is none of:") (listed choices) refl (listed_printable choices))

second_printable : (word : List ℕ) (choices : List (List ℕ)) → IsPrintable (second_text word choices)
second_printable word choices =
    either (eqb (length word) 0) (codes "word 2 is missing, one of:" ++ listed choices) (codes "word 2: '" ++ (shown word ++ (codes "' is none of:" ++ listed choices)))
    (missing_second choices) (other_second word choices)

-- a number between two texts
number_between : (front rest : List ℕ) (n : ℕ) → n < 2 ^ 64 → IsPrintable front → IsPrintable rest → IsPrintable (front ++ (decimal n ++ rest))
number_between front rest n small before behind = both front (decimal n ++ rest) before (both (decimal n) rest (decimal_printable n small) behind)

word_printable : (position : ℕ) (name word : List ℕ) → position < 2 ^ 64 → IsPrintable (word_text position name word)
word_printable position name word small =
    number_between (codes "word ") (codes ", " ++ (shown name ++ (codes ": '" ++ (shown word ++ codes "'")))) position small refl
    (between (codes ", ") name (codes ": '" ++ (shown word ++ codes "'")) refl (between (codes ": '") word (codes "'") refl refl))

or_name_printable : (name : List ℕ) → IsPrintable (or_name_text name)
or_name_printable name = either (is_identifier_or_name name) (codes " and no name of one") [] refl refl

words_printable : (name : List ℕ) → IsPrintable (words_text name)
unfolding words_text
words_printable name = both (bounds_text (bounds_of name)) (or_name_text name) (bounds_printable name) (or_name_printable name)

-- what is said of each fault
pub fault_printable : (f : LineFault) → IsCounted f → IsPrintable (fault_text f)
fault_printable (fault.Stray stray column) small =
    both (stray_name stray) (codes " at column " ++ (decimal column ++ codes ": words are separated by spaces")) (stray_printable stray)
    (number_between (codes " at column ") (codes ": words are separated by spaces") column small refl refl)
fault_printable (fault.NoSuchWord word nearest) small =
    between (codes "no line begins with '") word (codes "'" ++ nearest_text nearest) refl (both (codes "'") (nearest_text nearest) refl (nearest_printable nearest))
fault_printable (fault.NoSuchSecond word choices) small = second_printable word choices
fault_printable (fault.NotNumber position name word) small =
    both (word_text position name word) (codes " is no number from " ++ words_text name) (word_printable position name word small)
    (both (codes " is no number from ") (words_text name) refl (words_printable name))
fault_printable (fault.OutOfRange position name word) small =
    both (word_text position name word) (codes " is not " ++ bounds_text (bounds_of name)) (word_printable position name word small)
    (both (codes " is not ") (bounds_text (bounds_of name)) refl (bounds_printable name))
fault_printable (fault.Missing names) small =
    either (is_text names) (codes "there is no text") (codes "missing:" ++ listed names) refl (both (codes "missing:") (listed names) refl (listed_printable names))
fault_printable (fault.TooMany count) small = both (codes "words too many: ") (decimal count) refl (decimal_printable count small)
fault_printable fault.NotHere small = refl
