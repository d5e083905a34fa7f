-- The tables of letters, and the septets of a letter.
use Rattle.std.proofs.Common.{◌≡◌, ◌≢◌, ℕ, suc, zero, ◌+◌, ◌-◌, ◌<◌, ◌≤◌, Bool, true, false, cond, not, ◌&&◌, ◌||◌, List, [], ◌∷◌, ◌++◌, length, refl, ap, sym, ◌∙◌, arith, eqb, ltb, ◌⊎◌, inl, inr, Option, Some, None, subst}
use Rattle.std.proofs.lemmas.Bool.{eqb-true, ne_eqb}
use Rattle.std.proofs.lemmas.Bool.Decides.{nat_tests}
use Rattle.std.specs.Prelude.{find, is_some, option_map}
use Rattle.std.specs.List.{range_with_len, list_all}
use Rattle.message_text.specs.Alphabet.{alphabet, extension, letter_of, every_code, escaped_letter, code_of, extended_code}
use Rattle.message_text.specs.Reading.{spelled}
use Rattle.message_text.specs.Texts.{letter_fault, HasSeptets}
use Rattle.message_text.specs.Writing.{letter_septets, plain_or, escaped}

pub alphabet_length : length alphabet ≡ 128
unfolding alphabet
alphabet_length = refl

pub range_more : (a n : ℕ) → a < n → range_with_len a (n - a) ≡ a ∷ range_with_len (a + 1) (n - (a + 1))
range_more a n h = let e : n - a ≡ suc (n - (a + 1)) = omega arith in ap (range_with_len a) e

pub range_end : (a n : ℕ) → n ≤ a → range_with_len a (n - a) ≡ []
range_end a n h = let e : n - a ≡ zero = omega arith in ap (range_with_len a) e

and_parts : (a b : Bool) → (a && b) ≡ true → (a ≡ true) × (b ≡ true)
and_parts true b h = (refl, h)
and_parts false b h = cc

found_step : {X : Type 0} (p q : X → Bool) (y x : X) (ys : List X) (b : Bool) → p y ≡ b → q y ≡ true
    → (find p ys ≡ Some x → (p x ≡ true) × (q x ≡ true)) → cond b (Some y) (find p ys) ≡ Some x → (p x ≡ true) × (q x ≡ true)
found_step p q y x ys true h k rest e = let f : y ≡ x = cc in (ap p (sym f) ∙ h, ap q (sym f) ∙ k)
found_step p q y x ys false h k rest e = rest e

-- what is found passes the test, and any test that each element passes
pub found : {X : Type 0} (p q : X → Bool) (xs : List X) (x : X) → list_all q xs ≡ true → find p xs ≡ Some x → (p x ≡ true) × (q x ≡ true)
found p q [] x all e = cc
found p q (y ∷ ys) x all e =
    let parts = and_parts (q y) (list_all q ys) all in
    found_step p q y x ys (p y) refl parts.0 (found p q ys x parts.1) e

-- the code alone is the letter's
pub record IsCodeOf (letter code : ℕ) : Type 0 where
  pub letter_is : letter_of code ≡ letter
  pub low : code < 128
  pub no_escape : code ≢ 27
  pub no_return : code ≢ 13

-- the code behind an escape is the letter's
pub record IsEscapedCodeOf (letter code : ℕ) : Type 0 where
  pub letter_is : escaped_letter code ≡ letter
  pub low : code < 128
  pub no_return : code ≢ 13

escape_is : letter_of 27 ≡ 27
unfolding alphabet
escape_is = refl

return_is : letter_of 13 ≡ 13
unfolding alphabet
return_is = refl

codes_are_low : list_all (λ code. ltb code 128) every_code ≡ true
unfolding every_code
codes_are_low = refl

no_control : (letter code : ℕ) → letter_of code ≡ letter → letter_fault letter ≡ None → (code ≢ 27) × (code ≢ 13)
no_control letter code e plain = (
  λ h. let f : letter_fault 27 ≡ None = ap letter_fault (sym escape_is ∙ ap letter_of (sym h) ∙ e) ∙ plain in cc,
  λ h. let f : letter_fault 13 ≡ None = ap letter_fault (sym return_is ∙ ap letter_of (sym h) ∙ e) ∙ plain in cc,
)

pub code_facts : (letter code : ℕ) → code_of letter ≡ Some code → letter_fault letter ≡ None → IsCodeOf letter code
code_facts letter code e plain =
    let f = found (λ (k : ℕ). eqb (letter_of k) letter) (λ (k : ℕ). ltb k 128) every_code code codes_are_low e in
    let same = eqb-true (letter_of code) letter f.0 in
    let apart = no_control letter code same plain in
    let low : ltb code 128 ≡ true = f.1 in
    record { letter_is = same; low = grind (arith, nat_tests); no_escape = apart.0; no_return = apart.1 }

-- a row of the extension table says what its code is behind an escape
row_is_read : ℕ × ℕ → Bool
row_is_read row = eqb (escaped_letter row.0) row.1 && (ltb row.0 128 && not (eqb row.0 13))

rows_are_read : list_all row_is_read extension ≡ true
unfolding extension alphabet row_is_read
rows_are_read = refl

row_facts : (row : ℕ × ℕ) → row_is_read row ≡ true → IsEscapedCodeOf row.1 row.0
unfolding row_is_read
row_facts row h =
    let a = and_parts (eqb (escaped_letter row.0) row.1) (ltb row.0 128 && not (eqb row.0 13)) h in
    let b = and_parts (ltb row.0 128) (not (eqb row.0 13)) a.1 in
    let low : ltb row.0 128 ≡ true = b.0 in
    let apart : not (eqb row.0 13) ≡ true = b.1 in
    record { letter_is = eqb-true _ _ a.0; low = grind (arith, nat_tests); no_return = λ e. grind (arith, nat_tests) }

escaped_from : (letter code : ℕ) (found_row : Option (ℕ × ℕ)) → find (λ (row : ℕ × ℕ). eqb row.1 letter) extension ≡ found_row
    → option_map (λ (row : ℕ × ℕ). row.0) found_row ≡ Some code → IsEscapedCodeOf letter code
escaped_from letter code None e h = cc
escaped_from letter code (Some row) e h =
    let f = found (λ (row : ℕ × ℕ). eqb row.1 letter) row_is_read extension row rows_are_read e in
    let same = eqb-true row.1 letter f.0 in
    let code_is : row.0 ≡ code = cc in
    subst (λ (c : ℕ). IsEscapedCodeOf letter c) code_is (subst (λ (l : ℕ). IsEscapedCodeOf l row.0) same (row_facts row f.1))

pub escaped_code_facts : (letter code : ℕ) → extended_code letter ≡ Some code → IsEscapedCodeOf letter code
escaped_code_facts letter code e = escaped_from letter code _ refl e

-- the septets of a letter that has some
abbrev pub AreSeptetsOf : ℕ → List ℕ → Type 0
AreSeptetsOf letter septets =
    ((code : ℕ) × IsCodeOf letter code × (septets ≡ code ∷ []))
    ⊎ ((code : ℕ) × IsEscapedCodeOf letter code × (septets ≡ 27 ∷ code ∷ []))

septets_from : (letter : ℕ) (plain behind : Option ℕ) → code_of letter ≡ plain → extended_code letter ≡ behind
    → letter_fault letter ≡ None → (is_some plain || is_some behind) ≡ true → AreSeptetsOf letter (plain_or plain (escaped behind))
septets_from letter (Some code) behind e f plain h = inl (code, code_facts letter code e plain, refl)
septets_from letter None (Some code) e f plain h = inr (code, escaped_code_facts letter code f, refl)
septets_from letter None None e f plain h = cc

pub septets_of_letter : (letter : ℕ) → HasSeptets letter → AreSeptetsOf letter (letter_septets letter)
unfolding letter_septets
septets_of_letter letter h = septets_from letter (code_of letter) (extended_code letter) refl refl h.0 h.1

width_from : (plain behind : Option ℕ) → length (plain_or plain (escaped behind)) ≤ 2
width_from (Some code) behind = omega arith
width_from None (Some code) = omega arith
width_from None None = omega arith

pub width_bound : (letter : ℕ) → length (letter_septets letter) ≤ 2
unfolding letter_septets
width_bound letter = width_from (code_of letter) (extended_code letter)

-- by what is found, for the code
pub septets_plain : (letter code : ℕ) → code_of letter ≡ Some code → letter_septets letter ≡ code ∷ []
unfolding letter_septets
septets_plain letter code e = ap (λ p. plain_or p (escaped (extended_code letter))) e

pub septets_escaped : (letter code : ℕ) → code_of letter ≡ None → extended_code letter ≡ Some code → letter_septets letter ≡ 27 ∷ code ∷ []
unfolding letter_septets
septets_escaped letter code e f = ap (λ p. plain_or p (escaped (extended_code letter))) e ∙ ap escaped f

pub septets_missing : (letter : ℕ) → code_of letter ≡ None → extended_code letter ≡ None → letter_septets letter ≡ []
unfolding letter_septets
septets_missing letter e f = ap (λ p. plain_or p (escaped (extended_code letter))) e ∙ ap escaped f

width_plain_by : (plain behind : Option ℕ) → is_some plain ≡ true → 1 ≡ length (plain_or plain (escaped behind))
width_plain_by None behind e = cc
width_plain_by (Some code) behind e = refl

width_escaped_by : (plain behind : Option ℕ) → is_some plain ≡ false → is_some behind ≡ true → 2 ≡ length (plain_or plain (escaped behind))
width_escaped_by (Some code) behind e f = cc
width_escaped_by None None e f = cc
width_escaped_by None (Some code) e f = refl

width_missing_by : (plain behind : Option ℕ) → is_some plain ≡ false → is_some behind ≡ false → 0 ≡ length (plain_or plain (escaped behind))
width_missing_by (Some code) behind e f = cc
width_missing_by None (Some code) e f = cc
width_missing_by None None e f = refl

-- by what is there, for the number of septets
pub width_plain : (letter : ℕ) → is_some (code_of letter) ≡ true → 1 ≡ length (letter_septets letter)
unfolding letter_septets
width_plain letter e = width_plain_by (code_of letter) (extended_code letter) e

pub width_escaped : (letter : ℕ) → is_some (code_of letter) ≡ false → is_some (extended_code letter) ≡ true → 2 ≡ length (letter_septets letter)
unfolding letter_septets
width_escaped letter e f = width_escaped_by (code_of letter) (extended_code letter) e f

pub width_missing : (letter : ℕ) → is_some (code_of letter) ≡ false → is_some (extended_code letter) ≡ false → 0 ≡ length (letter_septets letter)
unfolding letter_septets
width_missing letter e f = width_missing_by (code_of letter) (extended_code letter) e f

spelled_plain : (code : ℕ) (rest : List ℕ) → code ≢ 27 → spelled false (code ∷ rest) ≡ letter_of code ∷ spelled false rest
spelled_plain code rest h = ap (λ b. cond b (spelled true rest) (letter_of code ∷ spelled false rest)) (ne_eqb code 27 h)

spelled_cases : (letter : ℕ) (septets rest : List ℕ) → AreSeptetsOf letter septets → spelled false (septets ++ rest) ≡ letter ∷ spelled false rest
spelled_cases letter septets rest (inl (code, h, e)) =
    ap (λ s. spelled false (s ++ rest)) e ∙ spelled_plain code rest h.no_escape ∙ ap (λ c. c ∷ spelled false rest) h.letter_is
spelled_cases letter septets rest (inr (code, h, e)) =
    ap (λ s. spelled false (s ++ rest)) e ∙ ap (λ c. c ∷ spelled false rest) h.letter_is

-- the septets of a letter are read as the letter
pub spelled_letter : (letter : ℕ) (rest : List ℕ) → HasSeptets letter → spelled false (letter_septets letter ++ rest) ≡ letter ∷ spelled false rest
spelled_letter letter rest h = spelled_cases letter (letter_septets letter) rest (septets_of_letter letter h)
