-- Where a search by halves over warnings in order ends is the place of the number.
use Rattle.std.proofs.Common.{◌≡◌, ℕ, ◌<◌, ◌≤◌, true, false, List, [], ◌∷◌, inl, inr, length, get_or, refl, sym, ap, ◌∙◌, ltb, ltb-true, arith}
use Rattle.std.specs.Prelude.{nat_eq}
use Rattle.std.specs.List.{position_or_len}
use Rattle.std.specs.List.Sorted.{IsNonDecreasingBy, IsPartitionPoint}
use Rattle.std.proofs.lemmas.Bool.{cases_lt}
use Rattle.std.proofs.lemmas.Bool.Decides.{nat_tests}
use Rattle.std.proofs.lemmas.Grind.{common_steps}
use Rattle.std.proofs.lemmas.List.Sums.{position_or_len_is}
use Rattle.common.specs.Order.{is_ascending}
use Rattle.common.specs.RisingLaws.{rises}
use Rattle.warning_book.specs.Book.{has_number, number_lt}
use Rattle.warning_book.specs.declared.warning.Warning.{Warning}

-- of two places the later one has the greater number
number_below : (l : List Warning) (i j : ℕ) (d : Warning) → is_ascending number_lt l ≡ true → i < j → j < length l → (get_or l i d).number < (get_or l j d).number
number_below l i j d o h b = ltb-true (get_or l i d).number (get_or l j d).number (rises number_lt l i j d o h b)

-- the numbers do not fall from one place to a later one
pub numbers_rise : (l : List Warning) → is_ascending number_lt l ≡ true → IsNonDecreasingBy (λ (w : Warning). w.number) l
numbers_rise l o i j d h b =
    elim (cases_lt i j) [
      | inl under ↦ let less = number_below l i j d o under b in omega arith
      | inr over ↦
          let same : i ≡ j = omega arith in
          let equal : (get_or l i d).number ≡ (get_or l j d).number = ap (λ (k : ℕ). (get_or l k d).number) same in
          omega arith
    ]

-- up to this place the numbers are less than n, and from it on they are not
abbrev pub IsStart : ℕ → List Warning → ℕ → Type 0
IsStart n l i = IsPartitionPoint (λ (w : Warning). ltb w.number n ≡ true) (λ (w : Warning). ltb w.number n ≡ false) l i

less_is_other : (m n : ℕ) → ltb m n ≡ true → nat_eq m n ≡ false
less_is_other m n h = grind (arith, nat_tests, common_steps)

greater_is_other : (k m n : ℕ) → ltb m n ≡ false → m < k → nat_eq k n ≡ false
greater_is_other k m n h b = grind (arith, nat_tests, common_steps)

-- the warning that the search ends at has the number
pub found_at_start : (n : ℕ) (l : List Warning) (i : ℕ) (w : Warning) → IsStart n l i → i < length l → w ≡ get_or l i w → has_number n w ≡ true → i ≡ position_or_len (has_number n) l
found_at_start n l i w start within g e =
    sym (position_or_len_is (has_number n) l i w (omega arith) (λ k b. less_is_other (get_or l k w).number n (start.0 k w (omega arith) b)) (λ b. ap (has_number n) (sym g) ∙ e))

-- a warning that has the number is the one that a search ends at, since no other has it
pub found_there : (n : ℕ) (l : List Warning) (i : ℕ) (w : Warning) → is_ascending number_lt l ≡ true → i < length l → w ≡ get_or l i w → has_number n w ≡ true → i ≡ position_or_len (has_number n) l
found_there n l i w o within g e =
    sym (position_or_len_is (has_number n) l i w (omega arith) other (λ b. ap (has_number n) (sym g) ∙ e))
  where
    other : (k : ℕ) → k < i → has_number n (get_or l k w) ≡ false
    other k b =
        let less : (get_or l k w).number < (get_or l i w).number = number_below l k i w o b within in
        let is : (get_or l i w).number ≡ w.number = ap (λ (x : Warning). x.number) (sym g) in
        grind (arith, nat_tests, common_steps, less, is, e)

-- it has another number, and so has each of the warnings
pub none_at_start : (n : ℕ) (l : List Warning) (i : ℕ) (w : Warning) → is_ascending number_lt l ≡ true → IsStart n l i → i < length l → w ≡ get_or l i w → has_number n w ≡ false → length l ≡ position_or_len (has_number n) l
none_at_start n l i w o start within g e =
    sym (position_or_len_is (has_number n) l (length l) w (omega arith) each (λ b. absurd (omega arith)))
  where
    behind : (k : ℕ) → i ≤ k → k < length l → has_number n (get_or l k w) ≡ false
    behind k low high =
        elim (cases_lt i k) [
          | inl after ↦ greater_is_other (get_or l k w).number (get_or l i w).number n (start.1 i w (omega arith) within) (number_below l i k w o after high)
          | inr last ↦
              let same : k ≡ i = omega arith in
              ap (λ (j : ℕ). has_number n (get_or l j w)) same ∙ ap (has_number n) (sym g) ∙ e
        ]

    each : (k : ℕ) → k < length l → has_number n (get_or l k w) ≡ false
    each k b =
        elim (cases_lt k i) [
          | inl before ↦ less_is_other (get_or l k w).number n (start.0 k w (omega arith) before)
          | inr from ↦ behind k from b
        ]

-- it ends past the last, and each of the warnings has a lesser number
pub none_past_last : (n : ℕ) (l : List Warning) (i : ℕ) → IsStart n l i → length l ≤ i → length l ≡ position_or_len (has_number n) l
none_past_last n [] i start h = refl
none_past_last n (w ∷ l) i start h =
    sym (position_or_len_is (has_number n) (w ∷ l) (length (w ∷ l)) w (omega arith) (λ k b. less_is_other (get_or (w ∷ l) k w).number n (start.0 k w (omega arith) (omega arith))) (λ b. absurd (omega arith)))
