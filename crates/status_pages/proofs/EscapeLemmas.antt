-- Escaped text.
use Rattle.std.proofs.Common.{◌≡◌, ℕ, zero, suc, ◌+◌, ◌-◌, ◌/◌, ◌%◌, Bool, true, false, cond, List, [], ◌∷◌, ◌++◌, Option, Some, None, refl, ap, ◌∙◌, eqb, ◌⊎◌, inl, inr, arith, nat_lt}
use Rattle.std.proofs.lemmas.Bool.{eqb-true}
use Rattle.std.proofs.lemmas.Bool.Decides.{nat_tests}
use Rattle.std.proofs.lemmas.Grind.{common_steps}
use Rattle.std.specs.Prelude.{codes}
use Rattle.status_pages.specs.Escapes.{escaped, escaped_behind, escaped_octet, is_control, is_sign, shown_octet}
use Rattle.status_pages.specs.Laws.{HasNoMarkup, IsPiece, read_from, shown_behind}
use Rattle.status_pages.specs.Turns.{digit_of, low_bits, turn_number, turns}

-- what a test on numbers picks, from what it tells
pick : {A : Type 0} (P : A → Type 0) (x y : A) (t : Bool) (b n : ℕ) → eqb b n ≡ t → (b ≡ n → P x) → (eqb b n ≡ false → P y) → P (cond t x y)
pick P x y true b n e holds fails = holds (eqb-true b n e)
pick P x y false b n e holds fails = fails e

-- the octet, where it is none of the first four, three, two signs or the first
abbrev past_quote : ℕ → List ℕ
past_quote b = cond (eqb b 39) (codes "&#39;") (shown_octet b ∷ [])

abbrev past_greater : ℕ → List ℕ
past_greater b = cond (eqb b 34) (codes "&quot;") (past_quote b)

abbrev past_less : ℕ → List ℕ
past_less b = cond (eqb b 62) (codes "&gt;") (past_greater b)

abbrev past_ampersand : ℕ → List ℕ
past_ampersand b = cond (eqb b 60) (codes "&lt;") (past_less b)

-- no sign: the octet fails each of the five tests
abbrev Passes : ℕ → Type 0
Passes b = (eqb b 38 ≡ false) × (eqb b 60 ≡ false) × (eqb b 62 ≡ false) × (eqb b 34 ≡ false) × (eqb b 39 ≡ false)

-- so does what is shown for it: the octet itself, or a blank
shown_passes : (b : ℕ) (t : Bool) → Passes b → Passes (cond t 32 b)
shown_passes b true h = (refl, refl, refl, refl, refl)
shown_passes b false h = h

-- an octet that passes each test is plain
plain : (b : ℕ) → Passes b → IsPiece (b ∷ [])
plain b h = inr (b, refl, rw (h.0, h.1, h.2, h.3, h.4) refl)

-- an escaped octet is an entity or plain
is_piece : (b : ℕ) → IsPiece (escaped_octet b)
is_piece b =
    pick IsPiece (codes "&amp;") (past_ampersand b) (eqb b 38) b 38 refl (λ _. inl (inl refl)) (λ e.
    pick IsPiece (codes "&lt;") (past_less b) (eqb b 60) b 60 refl (λ _. inl (inr (inl refl))) (λ f.
    pick IsPiece (codes "&gt;") (past_greater b) (eqb b 62) b 62 refl (λ _. inl (inr (inr (inl refl)))) (λ g.
    pick IsPiece (codes "&quot;") (past_quote b) (eqb b 34) b 34 refl (λ _. inl (inr (inr (inr (inl refl))))) (λ h.
    pick IsPiece (codes "&#39;") (shown_octet b ∷ []) (eqb b 39) b 39 refl (λ _. inl (inr (inr (inr (inr refl))))) (λ i.
    plain (shown_octet b) (shown_passes b (is_control b) (e, f, g, h, i)))))))

-- a piece in front of a text without markup
with_piece : {piece text : List ℕ} → IsPiece piece → HasNoMarkup text → HasNoMarkup (piece ++ text)
with_piece {piece} {text} h rest = (piece ∷ rest.0, ap (λ t. piece ++ t) rest.1, (h, rest.2))

-- a digit is none of the five signs
digit_below : (n : ℕ) → nat_lt n 10 ≡ true → is_sign (48 + n) ≡ false
digit_below n h = grind (arith, nat_tests, common_steps)

digit_above : (n : ℕ) → nat_lt n 10 ≡ false → is_sign (55 + n) ≡ false
digit_above n h = grind (arith, nat_tests, common_steps)

plain_digit : (n : ℕ) (t : Bool) → nat_lt n 10 ≡ t → is_sign (cond t (48 + n) (55 + n)) ≡ false
plain_digit n true h = digit_below n h
plain_digit n false h = digit_above n h

is_digit : (n : ℕ) → IsPiece (digit_of n ∷ [])
is_digit n = inr (digit_of n, refl, plain_digit n (nat_lt n 10) refl)

fixed : (b : ℕ) → is_sign b ≡ false → IsPiece (b ∷ [])
fixed b h = inr (b, refl, h)

-- a number in front of a text without markup
with_number : (behind text : List ℕ) → HasNoMarkup text → HasNoMarkup (turn_number behind ++ text)
with_number behind text h =
    with_piece (fixed 91 refl) (with_piece (fixed 85 refl) (with_piece (fixed 43 refl) (with_piece (fixed 50 refl) (with_piece (fixed 48 refl)
    (with_piece (is_digit (low_bits behind / 16)) (with_piece (is_digit (low_bits behind % 16)) (with_piece (fixed 93 refl) h)))))))

no_markup : (passed : ℕ) (text : List ℕ) → HasNoMarkup (escaped_behind passed text)
no_markup zero [] = ([], refl, tt)
no_markup (suc n) [] = ([], refl, tt)
no_markup (suc n) (b ∷ text) = no_markup n text
no_markup zero (b ∷ text) = step (turns b text) (no_markup 2 text) (no_markup 0 text)
  where
    step : (t : Bool) → HasNoMarkup (escaped_behind 2 text) → HasNoMarkup (escaped_behind 0 text) → HasNoMarkup (cond t (turn_number text ++ escaped_behind 2 text) (escaped_octet b ++ escaped_behind 0 text))
    step true behind rest = with_number text (escaped_behind 2 text) behind
    step false behind rest = with_piece (is_piece b) rest

pub escaped_has_no_markup : (text : List ℕ) → HasNoMarkup (escaped text)
escaped_has_no_markup text = no_markup 0 text

-- a browser reads that octet at the front of these
abbrev ReadsAs : ℕ → List ℕ → List ℕ → Type 0
ReadsAs b rest front = read_from None (front ++ rest) ≡ shown_octet b ∷ read_from None rest

reads_ampersand : (b : ℕ) (rest : List ℕ) → b ≡ 38 → ReadsAs b rest (codes "&amp;")
reads_ampersand b rest h = rw h refl

reads_less : (b : ℕ) (rest : List ℕ) → b ≡ 60 → ReadsAs b rest (codes "&lt;")
reads_less b rest h = rw h refl

reads_greater : (b : ℕ) (rest : List ℕ) → b ≡ 62 → ReadsAs b rest (codes "&gt;")
reads_greater b rest h = rw h refl

reads_quote : (b : ℕ) (rest : List ℕ) → b ≡ 34 → ReadsAs b rest (codes "&quot;")
reads_quote b rest h = rw h refl

reads_apostrophe : (b : ℕ) (rest : List ℕ) → b ≡ 39 → ReadsAs b rest (codes "&#39;")
reads_apostrophe b rest h = rw h refl

reads_plain : (b : ℕ) (rest : List ℕ) → eqb (shown_octet b) 38 ≡ false → ReadsAs b rest (shown_octet b ∷ [])
reads_plain b rest e = rw e refl

reads_octet : (b : ℕ) (rest : List ℕ) → ReadsAs b rest (escaped_octet b)
reads_octet b rest =
    pick (ReadsAs b rest) (codes "&amp;") (past_ampersand b) (eqb b 38) b 38 refl (reads_ampersand b rest) (λ e.
    pick (ReadsAs b rest) (codes "&lt;") (past_less b) (eqb b 60) b 60 refl (reads_less b rest) (λ f.
    pick (ReadsAs b rest) (codes "&gt;") (past_greater b) (eqb b 62) b 62 refl (reads_greater b rest) (λ g.
    pick (ReadsAs b rest) (codes "&quot;") (past_quote b) (eqb b 34) b 34 refl (reads_quote b rest) (λ h.
    pick (ReadsAs b rest) (codes "&#39;") (shown_octet b ∷ []) (eqb b 39) b 39 refl (reads_apostrophe b rest) (λ i.
    let passes : Passes (shown_octet b) = shown_passes b (is_control b) (e, f, g, h, i) in
    reads_plain b rest passes.0)))))

-- a browser reads an octet that isn't an ampersand as it stands
reads_fixed : (b : ℕ) (rest : List ℕ) → eqb b 38 ≡ false → read_from None (b ∷ rest) ≡ b ∷ read_from None rest
reads_fixed b rest e = rw e refl

-- none of the five signs is no ampersand
no_ampersand : (b : ℕ) → is_sign b ≡ false → eqb b 38 ≡ false
no_ampersand b h = grind (arith, nat_tests, common_steps)

reads_digit : (n : ℕ) (rest : List ℕ) → read_from None (digit_of n ∷ rest) ≡ digit_of n ∷ read_from None rest
reads_digit n rest = reads_fixed (digit_of n) rest (no_ampersand (digit_of n) (plain_digit n (nat_lt n 10) refl))

-- and so it reads a number
reads_number : (behind rest : List ℕ) → read_from None (turn_number behind ++ rest) ≡ turn_number behind ++ read_from None rest
reads_number behind rest =
    ap (λ t. codes "[U+20" ++ t)
    (reads_digit (low_bits behind / 16) (digit_of (low_bits behind % 16) ∷ 93 ∷ rest)
    ∙ ap (λ t. digit_of (low_bits behind / 16) ∷ t) (reads_digit (low_bits behind % 16) (93 ∷ rest)))

read_behind : (passed : ℕ) (text : List ℕ) → read_from None (escaped_behind passed text) ≡ shown_behind passed text
read_behind zero [] = refl
read_behind (suc n) [] = refl
read_behind (suc n) (b ∷ text) = read_behind n text
read_behind zero (b ∷ text) = step (turns b text) (read_behind 2 text) (read_behind 0 text)
  where
    step : (t : Bool) → read_from None (escaped_behind 2 text) ≡ shown_behind 2 text → read_from None (escaped_behind 0 text) ≡ shown_behind 0 text
        → read_from None (cond t (turn_number text ++ escaped_behind 2 text) (escaped_octet b ++ escaped_behind 0 text)) ≡ cond t (turn_number text ++ shown_behind 2 text) (shown_octet b ∷ shown_behind 0 text)
    step true behind rest = reads_number text (escaped_behind 2 text) ∙ ap (λ t. turn_number text ++ t) behind
    step false behind rest = reads_octet b (escaped_behind 0 text) ∙ ap (λ t. shown_octet b ∷ t) rest

pub escaped_is_read_back : (text : List ℕ) → read_from None (escaped text) ≡ shown_behind 0 text
escaped_is_read_back text = read_behind 0 text

-- one octet more is passed over
pub passed_on : (passed b : ℕ) (rest : List ℕ) → eqb passed 0 ≡ false → escaped_behind passed (b ∷ rest) ≡ escaped_behind (passed - 1) rest
passed_on zero b rest h = absurd (cc h)
passed_on (suc n) b rest h = let e : suc n - 1 ≡ n = omega arith in rw e refl

-- behind a text there is nothing
pub behind_none : (passed : ℕ) → escaped_behind passed [] ≡ []
behind_none zero = refl
behind_none (suc n) = refl
