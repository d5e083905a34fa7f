-- Octets in hexadecimal digits are read again.
use Rattle.std.proofs.Common.{◌≡◌, ℕ, suc, ◌*◌, ◌/◌, ◌%◌, ◌<◌, ◌≤◌, leb, ltb, true, ◌&&◌, List, [], ◌∷◌, length, map, Option, Some, slice_index, refl, ap, ap₂, arith}
use Rattle.std.specs.List.{AllByRecursion}
use Rattle.std.specs.Result.{result_ok}
use Rattle.std.proofs.lemmas.Bool.{le-leb, lt-ltb}
use Rattle.hex.specs.Hex.{IsBytes, encode_lower, encode_with, hex_digit_value, lower_digits}
use Rattle.hex.proofs.HexLemmas.{IsDigits, IsDigits-lower_digits, decode_of-encode_lower, length-encode_with}
use Rattle.console_text.specs.HexText.{all_octets_of, and_page, octets_of}
use Rattle.journal_text.proofs.WordLemmas.{above, above-weaker, both, is_word}

pub octets_back : (xs : List ℕ) → IsBytes xs → octets_of (encode_lower xs) ≡ Some xs
octets_back xs bytes = ap result_ok (decode_of-encode_lower xs bytes)

pub length_hex : (xs : List ℕ) → length (encode_lower xs) ≡ 2 * length xs
length_hex xs = length-encode_with lower_digits xs

-- what reads as a digit is one
digit_above : (c d : ℕ) → hex_digit_value c ≡ Some d → 47 < c
digit_above c d is = grind arith

encoded_above : (t : List ℕ) → IsDigits t → (xs : List ℕ) → IsBytes xs → above 47 (encode_with t xs) ≡ true
unfolding encode_with
encoded_above t digits [] bytes = refl
encoded_above t digits (x ∷ xs) bytes =
    let fits : x < 256 = bytes 0 in
    let high : x / 16 < 16 = omega arith in
    let low : x % 16 < 16 = omega arith in
    both (ltb 47 (slice_index t (x / 16))) (ltb 47 (slice_index t (x % 16)) && above 47 (encode_with t xs))
    (lt-ltb 47 (slice_index t (x / 16)) (digit_above (slice_index t (x / 16)) (x / 16) (digits (x / 16) high)))
    (both (ltb 47 (slice_index t (x % 16))) (above 47 (encode_with t xs))
    (lt-ltb 47 (slice_index t (x % 16)) (digit_above (slice_index t (x % 16)) (x % 16) (digits (x % 16) low)))
    (encoded_above t digits xs (λ k. bytes (suc k))))

pub hex_above : (xs : List ℕ) → IsBytes xs → above 47 (encode_lower xs) ≡ true
hex_above xs bytes = encoded_above lower_digits IsDigits-lower_digits xs bytes

pub hex_word : (xs : List ℕ) → 1 ≤ length xs → IsBytes xs → is_word (encode_lower xs) ≡ true
hex_word xs some bytes =
    let long = length_hex xs in
    both (leb 1 (length (encode_lower xs))) (above 32 (encode_lower xs)) (le-leb 1 (length (encode_lower xs)) (omega arith))
    (above-weaker 32 47 (encode_lower xs) (omega arith) (hex_above xs bytes))

-- and pages, one after another
pub pages_back : (pages : List (List ℕ)) → AllByRecursion IsBytes pages → all_octets_of (map encode_lower pages) ≡ Some pages
pages_back [] all = refl
pages_back (page ∷ pages) all = ap₂ (λ (p : Option (List ℕ)) (ps : Option (List (List ℕ))). and_page p ps) (octets_back page all.0) (pages_back pages all.1)
