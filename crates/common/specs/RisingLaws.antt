-- A list in order rises from place to place, and a test that what comes before passes too parts it.
use Rattle.std.proofs.Common.{◌≡◌, ℕ, zero, suc, ◌<◌, Bool, true, false, List, [], ◌∷◌, length, take, get_or, ltb, ltb-true, ltb-false, refl, sym, ap, ◌∙◌, arith}
use Rattle.std.specs.List.{list_all}
use Rattle.std.specs.List.Sorted.{IsPartitionedBy}
use Rattle.std.proofs.lemmas.Bool.{and_from, and_parts}
use Rattle.std.proofs.lemmas.List.Folds.{list_all_at}
use Rattle.common.specs.Order.{is_ascending}

-- what all of a list pass, the one at a place passes
pub at_place : {A : Type 0} (p : A → Bool) (xs : List A) (j : ℕ) (d : A) → j < length xs → list_all p xs ≡ true → p (get_or xs j d) ≡ true
at_place p xs j d h all = step (p (get_or xs j d)) refl
  where
    step : (t : Bool) → p (get_or xs j d) ≡ t → t ≡ true
    step true e = refl
    step false e = sym (list_all_at p xs j d h e) ∙ all

-- of two places the first has what comes first
pub rises : {A : Type 0} (before : A → A → Bool) (xs : List A) (i j : ℕ) (d : A) → is_ascending before xs ≡ true → i < j → j < length xs → before (get_or xs i d) (get_or xs j d) ≡ true
rises before [] i j d o h g = absurd (omega arith)
rises before (x ∷ xs) i zero d o h g = absurd (omega arith)
rises before (x ∷ xs) zero (suc j) d o h g =
    at_place (before x) xs j d (omega arith) (and_parts (list_all (before x) xs) (is_ascending before xs) o).0
rises before (x ∷ xs) (suc i) (suc j) d o h g =
    rises before xs i j d (and_parts (list_all (before x) xs) (is_ascending before xs) o).1 (omega arith) (omega arith)

-- what comes before one that passes passes too
pub parted : {A : Type 0} (before : A → A → Bool) (p : A → Bool) → ((x y : A) → before x y ≡ true → p y ≡ true → p x ≡ true) → (xs : List A) → is_ascending before xs ≡ true → IsPartitionedBy p xs
parted before p follows xs o i j d h g e = step (ltb i j) refl
  where
    step : (t : Bool) → ltb i j ≡ t → p (get_or xs i d) ≡ true
    step true k = follows (get_or xs i d) (get_or xs j d) (rises before xs i j d o (ltb-true i j k) g) e
    step false k = let same : i ≡ j = omega (arith, ltb-false i j k) in ap (λ n. p (get_or xs n d)) same ∙ e

-- what all of a list pass the first of them pass
all_taken : {A : Type 0} (p : A → Bool) (n : ℕ) (xs : List A) → list_all p xs ≡ true → list_all p (take n xs) ≡ true
all_taken p zero [] h = refl
all_taken p zero (x ∷ xs) h = refl
all_taken p (suc n) [] h = refl
all_taken p (suc n) (x ∷ xs) h =
    let parts = and_parts (p x) (list_all p xs) h in
    and_from (p x) (list_all p (take n xs)) parts.0 (all_taken p n xs parts.1)

-- the first of a list in order stand in order
pub taken_ascend : {A : Type 0} (before : A → A → Bool) (n : ℕ) (xs : List A) → is_ascending before xs ≡ true → is_ascending before (take n xs) ≡ true
taken_ascend before zero [] o = refl
taken_ascend before zero (x ∷ xs) o = refl
taken_ascend before (suc n) [] o = refl
taken_ascend before (suc n) (x ∷ xs) o =
    let parts = and_parts (list_all (before x) xs) (is_ascending before xs) o in
    and_from (list_all (before x) (take n xs)) (is_ascending before (take n xs)) (all_taken (before x) n xs parts.0) (taken_ascend before n xs parts.1)
