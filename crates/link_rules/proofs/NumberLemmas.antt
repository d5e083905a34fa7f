-- Numbers in decimal digits.
use Rattle.std.proofs.Common.{◌≡◌, ◌∙◌, ℕ, true, false, ◌&&◌, List, [], ◌∷◌, refl, sym, ap, arith}
use Rattle.std.proofs.lemmas.Str.{IsUtf8-from_ascii}
use Rattle.std.proofs.lemmas.Str.Ascii.{IsAscii-cons, IsAscii-nil}
use Rattle.std.proofs.lemmas.Str.Parse.{IsNumeralModel, numerals_by_value, tells_all_ascii_digits}
use Rattle.std.specs.Char.{is_ascii_digit}
use Rattle.std.specs.List.{list_all}
use Rattle.std.specs.Net.Grammar.{IsNumber}
use Rattle.std.specs.Str.{IsAscii, IsUtf8, all_ascii_digits}
use Rattle.std.specs.Str.Parse.{digits_value}

own : IsNumeralModel (λ ds. all_ascii_digits ds ≡ true) (digits_value 10)
own = numerals_by_value _ tells_all_ascii_digits

digits_are : (ds : List ℕ) → list_all is_ascii_digit ds ≡ all_ascii_digits ds
digits_are [] = refl
digits_are (c ∷ cs) = ap (λ b. is_ascii_digit c && b) (digits_are cs)

-- a word that has another octet writes no number
pub no_number : (word : List ℕ) (n : ℕ) → list_all is_ascii_digit word ≡ false → ¬ IsNumber 10 word n
no_number word n other is =
    let all : all_ascii_digits word ≡ true = own.from word is.0.1 in
    let not_all : all_ascii_digits word ≡ false = sym (digits_are word) ∙ other in
    cc

digits_ascii : (ds : List ℕ) → all_ascii_digits ds ≡ true → IsAscii ds
digits_ascii [] all = IsAscii-nil
digits_ascii (c ∷ cs) all =
    let parts = tells_all_ascii_digits.parts c cs all in
    IsAscii-cons c cs (omega (arith, parts.0)) (digits_ascii cs parts.1)

-- digits are a text
pub digits_utf8 : (word : List ℕ) → list_all is_ascii_digit word ≡ true → IsUtf8 word
digits_utf8 word all = IsUtf8-from_ascii word (digits_ascii word (sym (digits_are word) ∙ all))
