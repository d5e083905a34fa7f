-- In a list of numbers in ascending order a number stands where the lesser ones end.
use Rattle.std.proofs.Common.{◌≡◌, ℕ, ◌-◌, ◌<◌, ◌≤◌, Bool, true, false, List, length, get_or, nat_eq, ltb, ltb-true, ltb-false, refl, sym, ap, ◌∙◌, arith}
use Rattle.std.specs.List.{list_any}
use Rattle.std.specs.List.Sorted.{IsPartitionPoint, IsPartitionedBy}
use Rattle.std.proofs.lemmas.Bool.Decides.{nat_tests}
use Rattle.std.proofs.lemmas.Grind.{common_steps}
use Rattle.std.proofs.lemmas.List.Elements.{All-from_get_or}
use Rattle.std.proofs.lemmas.List.Folds.{list_any_at, list_any_none}
use Rattle.common.specs.Order.{is_ascending}
use Rattle.common.specs.RisingLaws as rising

-- the number is less than n
abbrev pub is_below : ℕ → ℕ → Bool
is_below n m = ltb m n

below_follows : (n x y : ℕ) → ltb x y ≡ true → is_below n y ≡ true → is_below n x ≡ true
below_follows n x y h g = grind (arith, nat_tests, common_steps)

-- a number before a lesser one is less too
pub parted : (n : ℕ) (ns : List ℕ) → is_ascending ltb ns ≡ true → IsPartitionedBy (is_below n) ns
parted n ns o = rising.parted ltb (is_below n) (λ x y h g. below_follows n x y h g) ns o

-- up to this place the numbers are less than n, and from it on they are not
abbrev pub IsStart : ℕ → List ℕ → ℕ → Type 0
IsStart n ns i = IsPartitionPoint (λ m. is_below n m ≡ true) (λ m. is_below n m ≡ false) ns i

below_is_other : (n m : ℕ) → is_below n m ≡ true → nat_eq n m ≡ false
below_is_other n m h = grind (arith, nat_tests, common_steps)

above_is_other : (n m k : ℕ) → ltb m k ≡ true → is_below n m ≡ false → nat_eq n k ≡ false
above_is_other n m k h g = grind (arith, nat_tests, common_steps)

-- where another stands there, or none, n is none of them
pub none_at_start : (n : ℕ) (ns : List ℕ) (i d : ℕ) → is_ascending ltb ns ≡ true → i ≤ length ns → IsStart n ns i → (i < length ns → nat_eq n (get_or ns i d) ≡ false) → false ≡ list_any (nat_eq n) ns
none_at_start n ns i d o h start e =
    sym (list_any_none (nat_eq n) ns (All-from_get_or (λ m. nat_eq n m ≡ false) ns d other))
  where
    other : (k : ℕ) → k < length ns → nat_eq n (get_or ns k d) ≡ false
    other k g = before (ltb k i) refl
      where
        after : (t : Bool) → ltb i k ≡ t → i ≤ k → nat_eq n (get_or ns k d) ≡ false
        after true f b = above_is_other n (get_or ns i d) (get_or ns k d) (rising.rises ltb ns i k d o (ltb-true i k f) g) (start.1 i d (omega arith) (omega arith))
        after false f b = let same : k ≡ i = omega (arith, ltb-false i k f) in ap (λ m. nat_eq n (get_or ns m d)) same ∙ e (omega arith)

        before : (t : Bool) → ltb k i ≡ t → nat_eq n (get_or ns k d) ≡ false
        before true f = below_is_other n (get_or ns k d) (start.0 k d (omega arith) (ltb-true k i f))
        before false f = after (ltb i k) refl (ltb-false k i f)

-- the number that stands there tells
pub told_at_start : (n : ℕ) (ns : List ℕ) (i d : ℕ) → is_ascending ltb ns ≡ true → i < length ns → IsStart n ns i → nat_eq n (get_or ns i d) ≡ list_any (nat_eq n) ns
told_at_start n ns i d o h start = step (nat_eq n (get_or ns i d)) refl
  where
    step : (t : Bool) → nat_eq n (get_or ns i d) ≡ t → t ≡ list_any (nat_eq n) ns
    step true e = sym (list_any_at (nat_eq n) ns i d h e)
    step false e = none_at_start n ns i d o (omega arith) start (λ g. e)

less_is_other : (n m k : ℕ) → ltb n m ≡ true → ltb m k ≡ true → nat_eq n k ≡ false
less_is_other n m k h g = grind (arith, nat_tests, common_steps)

greater_is_other : (n m k : ℕ) → ltb m n ≡ true → ltb k m ≡ true → nat_eq n k ≡ false
greater_is_other n m k h g = grind (arith, nat_tests, common_steps)

one_less : (n m : ℕ) → ltb n m ≡ true → nat_eq n m ≡ false
one_less n m h = grind (arith, nat_tests, common_steps)

one_greater : (n m : ℕ) → ltb m n ≡ true → nat_eq n m ≡ false
one_greater n m h = grind (arith, nat_tests, common_steps)

-- where the one there is greater, and the one before it less, n is none of them
pub none_between : (n : ℕ) (ns : List ℕ) (i : ℕ) → is_ascending ltb ns ≡ true → i ≤ length ns → (i < length ns → (d : ℕ) → ltb n (get_or ns i d) ≡ true) → (1 ≤ i → i - 1 < length ns → (d : ℕ) → ltb (get_or ns (i - 1) d) n ≡ true) → list_any (nat_eq n) ns ≡ false
none_between n ns i o h greater less =
    list_any_none (nat_eq n) ns (All-from_get_or (λ m. nat_eq n m ≡ false) ns 0 other)
  where
    other : (k : ℕ) → k < length ns → nat_eq n (get_or ns k 0) ≡ false
    other k g = before (ltb k i) refl
      where
        behind : (t : Bool) → ltb i k ≡ t → i ≤ k → nat_eq n (get_or ns k 0) ≡ false
        behind true f b = less_is_other n (get_or ns i 0) (get_or ns k 0) (greater (omega (arith, g, ltb-true i k f)) 0) (rising.rises ltb ns i k 0 o (ltb-true i k f) g)
        behind false f b =
            let same : k ≡ i = omega (arith, ltb-false i k f, b) in
            ap (λ m. nat_eq n (get_or ns m 0)) same ∙ one_less n (get_or ns i 0) (greater (omega (arith, g, same)) 0)

        ahead : (t : Bool) → ltb k (i - 1) ≡ t → k < i → nat_eq n (get_or ns k 0) ≡ false
        ahead true f b = greater_is_other n (get_or ns (i - 1) 0) (get_or ns k 0) (less (omega (arith, b)) (omega (arith, b, h)) 0) (rising.rises ltb ns k (i - 1) 0 o (ltb-true k (i - 1) f) (omega (arith, b, h)))
        ahead false f b =
            let same : k ≡ i - 1 = omega (arith, ltb-false k (i - 1) f, b) in
            ap (λ m. nat_eq n (get_or ns m 0)) same ∙ one_greater n (get_or ns (i - 1) 0) (less (omega (arith, b)) (omega (arith, b, h)) 0)

        before : (t : Bool) → ltb k i ≡ t → nat_eq n (get_or ns k 0) ≡ false
        before true f = ahead (ltb k (i - 1)) refl (ltb-true k i f)
        before false f = behind (ltb i k) refl (ltb-false k i f)
