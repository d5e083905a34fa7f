-- Where a search by halves over BSCs in order ends is the place of the BSC.
use Rattle.std.proofs.Common.{◌≡◌, ℕ, ◌<◌, ◌≤◌, true, false, List, [], ◌∷◌, inl, inr, length, get_or, refl, sym, ap, ◌∙◌, ltb, ltb-true, arith}
use Rattle.std.specs.Prelude.{nat_eq}
use Rattle.std.specs.List.{position_or_len}
use Rattle.std.specs.List.Sorted.{IsNonDecreasingBy, IsPartitionPoint}
use Rattle.std.proofs.lemmas.Bool.{cases_lt}
use Rattle.std.proofs.lemmas.Bool.Decides.{nat_tests}
use Rattle.std.proofs.lemmas.Grind.{common_steps}
use Rattle.std.proofs.lemmas.List.Sums.{position_or_len_is}
use Rattle.common.specs.Order.{is_ascending}
use Rattle.common.specs.RisingLaws.{rises}
use Rattle.order_maker.specs.ByBsc.{is_bsc, bsc_lt}
use Rattle.order_maker.specs.declared.bsc_orders.BscOrders.{BscOrders}

-- of two places the later one has the greater number
number_below : (l : List BscOrders) (i j : ℕ) (d : BscOrders) → is_ascending bsc_lt l ≡ true → i < j → j < length l → (get_or l i d).bsc < (get_or l j d).bsc
number_below l i j d o h b = ltb-true (get_or l i d).bsc (get_or l j d).bsc (rises bsc_lt l i j d o h b)

-- the numbers do not fall from one place to a later one
pub numbers_rise : (l : List BscOrders) → is_ascending bsc_lt l ≡ true → IsNonDecreasingBy (λ (w : BscOrders). w.bsc) l
numbers_rise l o i j d h b =
    elim (cases_lt i j) [
      | inl under ↦ let less = number_below l i j d o under b in omega arith
      | inr over ↦
          let same : i ≡ j = omega arith in
          let equal : (get_or l i d).bsc ≡ (get_or l j d).bsc = ap (λ (k : ℕ). (get_or l k d).bsc) same in
          omega arith
    ]

-- up to this place the numbers are less than n, and from it on they are not
abbrev pub IsStart : ℕ → List BscOrders → ℕ → Type 0
IsStart n l i = IsPartitionPoint (λ (w : BscOrders). ltb w.bsc n ≡ true) (λ (w : BscOrders). ltb w.bsc n ≡ false) l i

less_is_other : (m n : ℕ) → ltb m n ≡ true → nat_eq m n ≡ false
less_is_other m n h = grind (arith, nat_tests, common_steps)

greater_is_other : (k m n : ℕ) → ltb m n ≡ false → m < k → nat_eq k n ≡ false
greater_is_other k m n h b = grind (arith, nat_tests, common_steps)

-- the BSC that the search ends at has the number
pub found_at_start : (n : ℕ) (l : List BscOrders) (i : ℕ) (w : BscOrders) → IsStart n l i → i < length l → w ≡ get_or l i w → is_bsc n w ≡ true → i ≡ position_or_len (is_bsc n) l
found_at_start n l i w start within g e =
    sym (position_or_len_is (is_bsc n) l i w (omega arith) (λ k b. less_is_other (get_or l k w).bsc n (start.0 k w (omega arith) b)) (λ b. ap (is_bsc n) (sym g) ∙ e))

-- a BSC that has the number is the one that a search ends at, since no other has it
pub found_there : (n : ℕ) (l : List BscOrders) (i : ℕ) (w : BscOrders) → is_ascending bsc_lt l ≡ true → i < length l → w ≡ get_or l i w → is_bsc n w ≡ true → i ≡ position_or_len (is_bsc n) l
found_there n l i w o within g e =
    sym (position_or_len_is (is_bsc n) l i w (omega arith) other (λ b. ap (is_bsc n) (sym g) ∙ e))
  where
    other : (k : ℕ) → k < i → is_bsc n (get_or l k w) ≡ false
    other k b =
        let less : (get_or l k w).bsc < (get_or l i w).bsc = number_below l k i w o b within in
        let is : (get_or l i w).bsc ≡ w.bsc = ap (λ (x : BscOrders). x.bsc) (sym g) in
        grind (arith, nat_tests, common_steps, less, is, e)

-- it has another number, and so has each of the BSCs
pub none_at_start : (n : ℕ) (l : List BscOrders) (i : ℕ) (w : BscOrders) → is_ascending bsc_lt l ≡ true → IsStart n l i → i < length l → w ≡ get_or l i w → is_bsc n w ≡ false → length l ≡ position_or_len (is_bsc n) l
none_at_start n l i w o start within g e =
    sym (position_or_len_is (is_bsc n) l (length l) w (omega arith) each (λ b. absurd (omega arith)))
  where
    behind : (k : ℕ) → i ≤ k → k < length l → is_bsc n (get_or l k w) ≡ false
    behind k low high =
        elim (cases_lt i k) [
          | inl after ↦ greater_is_other (get_or l k w).bsc (get_or l i w).bsc n (start.1 i w (omega arith) within) (number_below l i k w o after high)
          | inr last ↦
              let same : k ≡ i = omega arith in
              ap (λ (j : ℕ). is_bsc n (get_or l j w)) same ∙ ap (is_bsc n) (sym g) ∙ e
        ]

    each : (k : ℕ) → k < length l → is_bsc n (get_or l k w) ≡ false
    each k b =
        elim (cases_lt k i) [
          | inl before ↦ less_is_other (get_or l k w).bsc n (start.0 k w (omega arith) before)
          | inr from ↦ behind k from b
        ]

-- it ends past the last, and each of the BSCs has a lesser number
pub none_past_last : (n : ℕ) (l : List BscOrders) (i : ℕ) → IsStart n l i → length l ≤ i → length l ≡ position_or_len (is_bsc n) l
none_past_last n [] i start h = refl
none_past_last n (w ∷ l) i start h =
    sym (position_or_len_is (is_bsc n) (w ∷ l) (length (w ∷ l)) w (omega arith) (λ k b. less_is_other (get_or (w ∷ l) k w).bsc n (start.0 k w (omega arith) (omega arith))) (λ b. absurd (omega arith)))
