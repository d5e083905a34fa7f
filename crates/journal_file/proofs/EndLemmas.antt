-- Octets that are cut where a line first ends.
use Rattle.std.proofs.Common.{◌≡◌, ◌∙◌, ℕ, ◌+◌, ◌<◌, ◌≤◌, eqb, true, false, List, ◌∷◌, ◌++◌, Option, Some, None, length, take, drop, get_or, sym, ap, add-one, arith}
use Rattle.std.proofs.lemmas.Bool.{eq-eqb, eqb-true, ne_eqb}
use Rattle.std.proofs.lemmas.List.{get_or-take, length-take}
use Rattle.std.proofs.lemmas.List.Elements.{All-from_get_or}
use Rattle.std.proofs.lemmas.List.Quantifiers.{position-Some}
use Rattle.std.proofs.lemmas.List.Sums.{fails_before_first, position_or_len_is}
use Rattle.std.proofs.lemmas.Grind.{common_steps}
use Rattle.std.proofs.lemmas.Slice.{between_to_end}
use Rattle.std.proofs.Math.Seq.{split_at}
use Rattle.std.specs.List.{between, position, position_or_len}
use Rattle.memchr.specs.Find.{IsFirstByte, is_byte}
use Rattle.journal_file.specs.Lines.{HasNoEnd}

-- what the search of `memchr` gives is the place where the octet stands first
pub first_is_position : (octet : ℕ) (text : List ℕ) (found : Option ℕ) → IsFirstByte (is_byte octet) text found → found ≡ position (λ x. eqb x octet) text
first_is_position octet text None nowhere =
    let past = position_or_len_is (λ x. eqb x octet) text (length text) 0 (omega arith) (λ k below. ne_eqb _ _ (λ same. nowhere k (omega arith) below (eq-eqb _ _ same))) (λ below. absurd (omega arith)) in
    grind (arith, common_steps)
first_is_position octet text (Some place) there =
    let first = there.0 in
    let inside : place < length text = first.high in
    let is = position_or_len_is (λ x. eqb x octet) text place 0 (omega arith) (λ k below. ne_eqb _ _ (λ same. first.before k (omega arith) below (eq-eqb _ _ same))) (λ below. there.1) in
    grind (arith, common_steps)

-- octets are cut at a place where a line ends
split_there : (octets : List ℕ) (place : ℕ) → place < length octets → eqb (get_or octets place 0) 10 ≡ true → octets ≡ take place octets ++ 10 ∷ between (place + 1) (length octets) octets
split_there octets place inside same =
    split_at octets place 0 inside
    ∙ ap (λ n. take place octets ++ get_or octets place 0 ∷ drop n octets) (sym (add-one place))
    ∙ ap (λ x. take place octets ++ x ∷ drop (place + 1) octets) (eqb-true (get_or octets place 0) 10 same)
    ∙ ap (λ rest. take place octets ++ 10 ∷ rest) (sym (between_to_end octets (place + 1) (length octets) (omega arith)))

-- what stands in front of the first such place, and behind it
pub cut_there : (octets : List ℕ) (place : ℕ) → position (λ x. eqb x 10) octets ≡ Some place
    → (octets ≡ take place octets ++ 10 ∷ between (place + 1) (length octets) octets) × HasNoEnd (take place octets)
cut_there octets place is =
    let there = position-Some (λ x. eqb x 10) octets place 0 is in (
      split_there octets place there.0 there.1,
      All-from_get_or (λ x. eqb x 10 ≡ false) (take place octets) 0 (λ k below.
          let front : k < place = omega (arith, length-take place octets) in
          ap (λ x. eqb x 10) (get_or-take place octets k 0 front) ∙ there.2 k front),
    )

-- octets in which no line ends
pub cut_nowhere : (octets : List ℕ) → position (λ x. eqb x 10) octets ≡ None → HasNoEnd octets
cut_nowhere octets is =
    let past : length octets ≤ position_or_len (λ x. eqb x 10) octets = grind (arith, common_steps) in
    All-from_get_or (λ x. eqb x 10 ≡ false) octets 0 (λ k below. fails_before_first (λ x. eqb x 10) octets k 0 (omega arith))

-- a place in octets in which no line ends
pub none_there : (octets : List ℕ) (place : ℕ) → HasNoEnd octets → position (λ x. eqb x 10) octets ≡ Some place → ⊥
none_there octets place none is =
    let there = position-Some (λ x. eqb x 10) octets place 0 is in
    let differs : eqb (get_or octets place 0) 10 ≡ false = none place 0 there.0 in
    cc
