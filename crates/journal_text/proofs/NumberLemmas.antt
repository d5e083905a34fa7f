-- Numbers that are written in decimal digits are read again.
use Rattle.std.proofs.Common.{◌≡◌, ◌∙◌, ℕ, ◌+◌, ◌-◌, ◌*◌, ◌/◌, ◌%◌, ◌^◌, ◌<◌, ◌≤◌, leb, ltb, true, false, List, [], ◌∷◌, ◌++◌, length, Some, None, refl, ap, arith, cond}
use Rattle.std.specs.Prelude.{decimal}
use Rattle.std.proofs.lemmas.Bool.{le-leb, lt-ltb}
use Rattle.std.proofs.lemmas.Fmt.{decimal_by_steps, decimal_nonempty, length-decimal-le}
use Rattle.console_text.specs.Numbers.{decimal_from, is_digit, number_in, number_of, within}
use Rattle.journal_text.proofs.WordLemmas.{above, above-append, above-weaker, both, is_word}

digit_is : (d : ℕ) → d < 10 → is_digit (48 + d) ≡ true
digit_is d low = both (leb 48 (48 + d)) (leb (48 + d) 57) (le-leb 48 (48 + d) (omega arith)) (le-leb (48 + d) 57 (omega arith))

-- one digit more
decimal_from-more : (m : ℕ) (ds : List ℕ) (k x : ℕ) → decimal_from m ds ≡ Some k → is_digit x ≡ true → decimal_from m (ds ++ x ∷ []) ≡ Some (k * 10 + (x - 48))
decimal_from-more m [] k x is digit = rw digit (let same : m ≡ k = cc is in ap (λ (n : ℕ). Some (n * 10 + (x - 48))) same)
decimal_from-more m (d ∷ ds) k x is digit =
    elim (is_digit d) as (λ b. cond b (decimal_from (m * 10 + (d - 48)) ds) None ≡ Some k → cond b (decimal_from (m * 10 + (d - 48)) (ds ++ x ∷ [])) None ≡ Some (k * 10 + (x - 48))) [
      | true ↦ λ more. decimal_from-more (m * 10 + (d - 48)) ds k x more digit
      | false ↦ λ none. cc none
    ] is

-- the digits of a number write it
decimal_read : (n : ℕ) → n < 2 ^ 64 → decimal_from 0 (decimal n) ≡ Some n
decimal_read n small =
    decimal_by_steps (λ (n : ℕ) (ds : List ℕ). decimal_from 0 ds ≡ Some n)
    (λ (n : ℕ) (low : n < 10). rw (digit_is n low) (ap Some (omega arith)))
    (λ (n : ℕ) (ds : List ℕ) (high : 10 ≤ n) (before : decimal_from 0 ds ≡ Some (n / 10)).
    let digit = digit_is (n % 10) (omega arith) in
    decimal_from-more 0 ds (n / 10) (48 + n % 10) before digit ∙ ap Some (omega arith))
    n small

-- they are digits
pub decimal_above : (n : ℕ) → n < 2 ^ 64 → above 47 (decimal n) ≡ true
decimal_above n small =
    decimal_by_steps (λ (n : ℕ) (ds : List ℕ). above 47 ds ≡ true)
    (λ (n : ℕ) (low : n < 10). both (ltb 47 (48 + n)) true (lt-ltb 47 (48 + n) (omega arith)) refl)
    (λ (n : ℕ) (ds : List ℕ) (high : 10 ≤ n) (before : above 47 ds ≡ true).
    above-append 47 ds ((48 + n % 10) ∷ []) before (both (ltb 47 (48 + n % 10)) true (lt-ltb 47 (48 + n % 10) (omega arith)) refl))
    n small

-- at most ten of them
pub decimal_short : (n : ℕ) → n < 10000000000 → length (decimal n) ≤ 10
decimal_short n small = length-decimal-le 10 n (omega arith) (omega arith) (omega arith)

pub decimal_word : (n : ℕ) → n < 10000000000 → is_word (decimal n) ≡ true
decimal_word n small =
    both (leb 1 (length (decimal n))) (above 32 (decimal n)) (le-leb 1 (length (decimal n)) (decimal_nonempty n (omega arith)))
    (above-weaker 32 47 (decimal n) (omega arith) (decimal_above n (omega arith)))

pub number_back : (n : ℕ) → n < 10000000000 → number_of (decimal n) ≡ Some n
number_back n small =
    let least = le-leb 1 (length (decimal n)) (decimal_nonempty n (omega arith)) in
    let most = le-leb (length (decimal n)) 10 (decimal_short n small) in
    rw (both (leb 1 (length (decimal n))) (leb (length (decimal n)) 10) least most) (decimal_read n (omega arith))

pub number_in_back : (low high n : ℕ) → low ≤ n → n ≤ high → high < 10000000000 → number_in low high (decimal n) ≡ Some n
number_in_back low high n least most bound =
    ap (within low high) (number_back n (omega arith)) ∙ rw (both (leb low n) (leb n high) (le-leb low n least) (le-leb n high most)) refl
