-- No letter that turns the direction of text is left in an escaped text.
use Rattle.std.proofs.Common.{◌≡◌, ℕ, zero, suc, ◌+◌, ◌*◌, ◌/◌, ◌%◌, ◌<◌, ◌≤◌, Bool, true, false, cond, ◌&&◌, ◌||◌, List, [], ◌∷◌, ◌++◌, refl, eqb, arith, nat_lt}
use Rattle.std.proofs.lemmas.Bool.Decides.{nat_tests}
use Rattle.std.proofs.lemmas.Grind.{common_steps}
use Rattle.std.specs.Prelude.{codes}
use Rattle.status_pages.specs.Escapes.{escaped, escaped_behind, escaped_octet, is_control}
use Rattle.status_pages.specs.Laws.{has_turn}
use Rattle.status_pages.specs.Turns.{digit_of, ends_turn, is_isolate, is_mark, low_bits, octet_at, turn_number, turns}

choose : {A : Type 0} (P : A → Type 0) (x y : A) (t : Bool) → P x → P y → P (cond t x y)
choose P x y true h g = h
choose P x y false h g = g

-- what an octet stands as: one of the five entities, a blank, or itself
abbrev past_quote : ℕ → List ℕ
past_quote b = cond (eqb b 39) (codes "&#39;") (cond (is_control b) 32 b ∷ [])

abbrev past_greater : ℕ → List ℕ
past_greater b = cond (eqb b 34) (codes "&quot;") (past_quote b)

abbrev past_less : ℕ → List ℕ
past_less b = cond (eqb b 62) (codes "&gt;") (past_greater b)

abbrev past_ampersand : ℕ → List ℕ
past_ampersand b = cond (eqb b 60) (codes "&lt;") (past_less b)

-- each of these
stands_as : (P : List ℕ → Type 0) (b : ℕ) → P (codes "&amp;") → P (codes "&lt;") → P (codes "&gt;") → P (codes "&quot;") → P (codes "&#39;") → P (32 ∷ []) → P (b ∷ []) → P (escaped_octet b)
stands_as P b ampersand less greater quote apostrophe blank itself =
    choose P (codes "&amp;") (past_ampersand b) (eqb b 38) ampersand
    (choose P (codes "&lt;") (past_less b) (eqb b 60) less
    (choose P (codes "&gt;") (past_greater b) (eqb b 62) greater
    (choose P (codes "&quot;") (past_quote b) (eqb b 34) quote
    (choose P (codes "&#39;") (cond (is_control b) 32 b ∷ []) (eqb b 39) apostrophe
    (choose (λ o. P (o ∷ [])) 32 b (is_control b) blank itself)))))

-- the two octets end no such letter
abbrev EndsNone : ℕ → ℕ → Type 0
EndsNone second third = ((eqb second 128 && is_mark third) || (eqb second 129 && is_isolate third)) ≡ false

neither : (p q : Bool) → ((p && false) || (q && false)) ≡ false
neither true true = refl
neither true false = refl
neither false true = refl
neither false false = refl

-- an ampersand ends none
entity_ends_none : (second : ℕ) → EndsNone second 38
entity_ends_none second = neither (eqb second 128) (eqb second 129)

-- the first octet of an escaped text is that of the text, or one that ends no such letter
third_kept : (second : ℕ) (text : List ℕ) → EndsNone second (octet_at text 0) → EndsNone second (octet_at (escaped_behind 0 text) 0)
third_kept second [] h = h
third_kept second (b ∷ text) h = step (turns b text)
  where
    step : (t : Bool) → EndsNone second (octet_at (cond t (turn_number text ++ escaped_behind 2 text) (escaped_octet b ++ escaped_behind 0 text)) 0)
    step true = neither (eqb second 128) (eqb second 129)
    step false = stands_as (λ x. EndsNone second (octet_at (x ++ escaped_behind 0 text) 0)) b (entity_ends_none second) (entity_ends_none second) (entity_ends_none second) (entity_ends_none second) (entity_ends_none second) (neither (eqb second 128) (eqb second 129)) h

-- what ends no such letter ends none escaped
ends_kept : (text : List ℕ) → ends_turn text ≡ false → ends_turn (escaped_behind 0 text) ≡ false
ends_kept [] h = refl
ends_kept (b ∷ text) h = step (turns b text)
  where
    step : (t : Bool) → ends_turn (cond t (turn_number text ++ escaped_behind 2 text) (escaped_octet b ++ escaped_behind 0 text)) ≡ false
    step true = refl
    step false = stands_as (λ x. ends_turn (x ++ escaped_behind 0 text) ≡ false) b refl refl refl refl refl refl (third_kept b text h)

begun_kept : (first : Bool) (text : List ℕ) → (first && ends_turn text) ≡ false → (first && ends_turn (escaped_behind 0 text)) ≡ false
begun_kept true text h = ends_kept text h
begun_kept false text h = refl

-- a digit is no octet that begins such a letter
low_begins_none : (n : ℕ) → n < 16 → eqb (48 + n) 226 ≡ false
low_begins_none n h = grind (arith, nat_tests, common_steps)

high_begins_none : (n : ℕ) → n < 16 → eqb (55 + n) 226 ≡ false
high_begins_none n h = grind (arith, nat_tests, common_steps)

begins_none : (n : ℕ) (t : Bool) → n < 16 → eqb (cond t (48 + n) (55 + n)) 226 ≡ false
begins_none n true h = low_begins_none n h
begins_none n false h = high_begins_none n h

digit_begins_none : (n : ℕ) → n < 16 → eqb (digit_of n) 226 ≡ false
digit_begins_none n h = begins_none n (nat_lt n 10) h

either_none : (p q : Bool) → p ≡ false → q ≡ false → (p || q) ≡ false
either_none p q e h = rw (e, h) refl

both_none : (p q : Bool) → p ≡ false → (p && q) ≡ false
both_none p q e = rw e refl

high_digit : (behind : List ℕ) → low_bits behind / 16 < 16
high_digit behind = omega arith

low_digit : (behind : List ℕ) → low_bits behind % 16 < 16
low_digit behind = omega arith

passes : (b : ℕ) (text : List ℕ) → eqb b 226 ≡ false → has_turn text ≡ false → has_turn (b ∷ text) ≡ false
passes b text e h = either_none (turns b text) (has_turn text) (both_none (eqb b 226) (ends_turn text) e) h

after_number : (behind text : List ℕ) → has_turn text ≡ false → has_turn (turn_number behind ++ text) ≡ false
after_number behind text h =
    passes (digit_of (low_bits behind / 16)) (digit_of (low_bits behind % 16) ∷ 93 ∷ text) (digit_begins_none (low_bits behind / 16) (high_digit behind))
    (passes (digit_of (low_bits behind % 16)) (93 ∷ text) (digit_begins_none (low_bits behind % 16) (low_digit behind)) h)

no_turn : (passed : ℕ) (text : List ℕ) → has_turn (escaped_behind passed text) ≡ false
no_turn zero [] = refl
no_turn (suc n) [] = refl
no_turn (suc n) (b ∷ text) = no_turn n text
no_turn zero (b ∷ text) = step (turns b text) refl (no_turn 2 text) (no_turn 0 text)
  where
    step : (t : Bool) → turns b text ≡ t → has_turn (escaped_behind 2 text) ≡ false → has_turn (escaped_behind 0 text) ≡ false
        → has_turn (cond t (turn_number text ++ escaped_behind 2 text) (escaped_octet b ++ escaped_behind 0 text)) ≡ false
    step true e behind rest = after_number text (escaped_behind 2 text) behind
    step false e behind rest =
        let kept = begun_kept (eqb b 226) text e in
        stands_as (λ x. has_turn (x ++ escaped_behind 0 text) ≡ false) b rest rest rest rest rest rest (either_none (turns b (escaped_behind 0 text)) (has_turn (escaped_behind 0 text)) kept rest)

pub escaped_turns_nothing : (text : List ℕ) → has_turn (escaped text) ≡ false
escaped_turns_nothing text = no_turn 0 text
