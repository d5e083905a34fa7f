-- A text that is cut where a separator first stands.
use Rattle.std.proofs.Common.{◌≡◌, ◌∙◌, ℕ, ◌+◌, ◌<◌, ◌≤◌, eqb, true, false, List, ◌∷◌, ◌++◌, Option, Some, None, length, take, drop, get_or, sym, ap, add-one, arith}
use Rattle.std.proofs.lemmas.Bool.{eq-eqb, eqb-true, ne_eqb}
use Rattle.std.proofs.lemmas.List.{get_or-take, length-take}
use Rattle.std.proofs.lemmas.List.Elements.{All-from_get_or}
use Rattle.std.proofs.lemmas.List.Quantifiers.{position-Some}
use Rattle.std.proofs.lemmas.List.Sums.{fails_before_first, position_or_len_is}
use Rattle.std.proofs.lemmas.Grind.{common_steps}
use Rattle.std.proofs.lemmas.Slice.{between_to_end}
use Rattle.std.proofs.Math.Seq.{split_at}
use Rattle.std.specs.List.{between, position, position_or_len}
use Rattle.memchr.specs.Find.{IsFirstByte, is_byte}
use Rattle.console_text.specs.Parts.{HasNone}

-- what the search of `memchr` gives is the place where the octet stands first
pub first_is_position : (octet : ℕ) (text : List ℕ) (found : Option ℕ) → IsFirstByte (is_byte octet) text found → found ≡ position (λ x. eqb x octet) text
first_is_position octet text None nowhere =
    let past = position_or_len_is (λ x. eqb x octet) text (length text) 0 (omega arith) (λ k below. ne_eqb _ _ (λ same. nowhere k (omega arith) below (eq-eqb _ _ same))) (λ below. absurd (omega arith)) in
    grind (arith, common_steps)
first_is_position octet text (Some place) there =
    let first = there.0 in
    let inside : place < length text = first.high in
    let is = position_or_len_is (λ x. eqb x octet) text place 0 (omega arith) (λ k below. ne_eqb _ _ (λ same. first.before k (omega arith) below (eq-eqb _ _ same))) (λ below. there.1) in
    grind (arith, common_steps)

-- a text is cut at a place where the separator stands
split_there : (separator : ℕ) (text : List ℕ) (place : ℕ) → place < length text → eqb (get_or text place 0) separator ≡ true → text ≡ take place text ++ separator ∷ between (place + 1) (length text) text
split_there separator text place inside same =
    split_at text place 0 inside
    ∙ ap (λ n. take place text ++ get_or text place 0 ∷ drop n text) (sym (add-one place))
    ∙ ap (λ x. take place text ++ x ∷ drop (place + 1) text) (eqb-true (get_or text place 0) separator same)
    ∙ ap (λ rest. take place text ++ separator ∷ rest) (sym (between_to_end text (place + 1) (length text) (omega arith)))

-- what stands in front of the first such place, and behind it
pub cut_there : (separator : ℕ) (text : List ℕ) (place : ℕ) → position (λ x. eqb x separator) text ≡ Some place
    → (text ≡ take place text ++ separator ∷ between (place + 1) (length text) text) × HasNone separator (take place text)
cut_there separator text place is =
    let there = position-Some (λ x. eqb x separator) text place 0 is in (
      split_there separator text place there.0 there.1,
      All-from_get_or (λ x. eqb x separator ≡ false) (take place text) 0 (λ k below.
          let front : k < place = omega (arith, length-take place text) in
          ap (λ x. eqb x separator) (get_or-take place text k 0 front) ∙ there.2 k front),
    )

-- a text where it stands nowhere
pub cut_nowhere : (separator : ℕ) (text : List ℕ) → position (λ x. eqb x separator) text ≡ None → HasNone separator text
cut_nowhere separator text is =
    let past : length text ≤ position_or_len (λ x. eqb x separator) text = grind (arith, common_steps) in
    All-from_get_or (λ x. eqb x separator ≡ false) text 0 (λ k below. fails_before_first (λ x. eqb x separator) text k 0 (omega arith))
