-- The names whose digits are those of a test are the names that pass it.
use Rattle.std.proofs.Common.{◌≡◌, ◌<◌, ◌≤◌, ℕ, zero, suc, ◌+◌, ◌*◌, ◌/◌, ◌%◌, Bool, true, false, not, ◌==◌, List, [], ◌∷◌, length, drop, filter, map, nat_eq, eqb-true, refl, ◌∙◌, ap, arith, if◌then◌else◌}
use Rattle.std.proofs.lemmas.Bool.Decides.{nat_tests}
use Rattle.std.proofs.lemmas.Grind.{common_steps}
use Rattle.std.proofs.lemmas.List.{length-drop}
use Rattle.common.specs.Sums.{one}
use Rattle.coverage_board.specs.AreaSets.{mask, names_at, power}
use Rattle.coverage_board.specs.Parts.{has_areas}

half : (b : Bool) (m : ℕ) → (one b + 2 * m) / 2 ≡ m
half true m = omega arith
half false m = omega arith

odd : (b : Bool) (m : ℕ) → ((one b + 2 * m) % 2 == 1) ≡ b
odd true m = let e : (1 + 2 * m) % 2 ≡ 1 = omega arith in ap (λ r. r == 1) e
odd false m = let e : (0 + 2 * m) % 2 ≡ 0 = omega arith in ap (λ r. r == 1) e

-- the names with the digits of a test are those that pass it
pub names_mask : (p : List ℕ → Bool) (names : List (List ℕ)) → names_at (mask p names) names ≡ filter p names
names_mask p [] = refl
names_mask p (a ∷ rest) =
    (λ i. if odd (p a) (mask p rest) i then a ∷ names_at (half (p a) (mask p rest) i) rest else names_at (half (p a) (mask p rest) i) rest)
    ∙ ap (λ ys. if p a then a ∷ ys else ys) (names_mask p rest)

-- one binary digit
pub one_few : (b : Bool) → one b ≤ 1
one_few true = omega arith
one_few false = omega arith

-- no digit stands behind those of the elements
pub mask_below : {A : Type 0} (p : A → Bool) (xs : List A) → mask p xs < power (length xs)
mask_below p [] = omega arith
mask_below p (x ∷ rest) = let here = one_few (p x) in omega (arith, here, mask_below p rest)

-- the digits of what is made of the elements
pub mask_map : {A B : Type 0} (p : B → Bool) (f : A → B) (xs : List A) → mask p (map f xs) ≡ mask (λ x. p (f x)) xs
mask_map p f [] = refl
mask_map p f (x ∷ rest) = ap (λ m. one (p (f x)) + 2 * m) (mask_map p f rest)

grows : (n k : ℕ) → n ≤ k → power n ≤ power k
grows zero zero h = omega arith
grows zero (suc k) h = let more = grows zero k (omega arith) in omega arith
grows (suc n) zero h = absurd (omega arith)
grows (suc n) (suc k) h = let more = grows n k (omega arith) in omega arith

fifteen : power 15 ≡ 32768
fifteen = refl

-- the digits of all but the first elements
pub drop_few : {A : Type 0} (p : A → Bool) (xs : List A) (i : ℕ) → length xs ≤ 16 → 1 ≤ i → mask p (drop i xs) < 32768
drop_few p xs i h g =
    let long = length-drop i xs in
    let low = mask_below p (drop i xs) in
    let most = grows (length (drop i xs)) 15 (omega arith) in
    let is = fifteen in
    omega arith

-- there is a name just where there is a digit, and none behind those of the names
pub none_at : (bits : ℕ) (names : List (List ℕ)) → bits < power (length names) → not (nat_eq bits 0) ≡ has_areas (names_at bits names)
none_at bits [] h = let none : bits ≡ 0 = omega arith in ap (λ n. not (nat_eq n 0)) none
none_at bits (a ∷ rest) h = step (bits % 2 == 1) refl (none_at (bits / 2) rest (omega arith))
  where
    step : (t : Bool) → (bits % 2 == 1) ≡ t → not (nat_eq (bits / 2) 0) ≡ has_areas (names_at (bits / 2) rest) → not (nat_eq bits 0) ≡ has_areas (if t then a ∷ names_at (bits / 2) rest else names_at (bits / 2) rest)
    step true e more = let odd : bits % 2 ≡ 1 = eqb-true (bits % 2) 1 e in let some : nat_eq bits 0 ≡ false = grind (arith, nat_tests, common_steps) in ap not some
    step false e more = let same : nat_eq bits 0 ≡ nat_eq (bits / 2) 0 = grind (arith, nat_tests, common_steps) in ap not same ∙ more
