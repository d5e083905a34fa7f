-- The order of names is strict and total.
use Rattle.std.proofs.Common.{◌≡◌, ℕ, Bool, true, false, ◌&&◌, ◌||◌, nat_eq, ltb, List, [], ◌∷◌, refl, arith}
use Rattle.std.specs.Prelude.{bytes_eq}
use Rattle.std.proofs.lemmas.Bool.{le-ltb, or_from, and_right}
use Rattle.std.proofs.lemmas.Bool.Decides.{nat_tests}
use Rattle.std.proofs.lemmas.Grind.{common_steps}
use Rattle.areas.specs.Name.{octets_lt}

-- no name comes before itself
pub octets_lt-irreflexive : (a : List ℕ) → octets_lt a a ≡ false
octets_lt-irreflexive [] = refl
octets_lt-irreflexive (x ∷ xs) =
    or_from (ltb x x) (nat_eq x x && octets_lt xs xs) (le-ltb x x (omega arith)) (and_right (nat_eq x x) (octets_lt xs xs) (octets_lt-irreflexive xs))

either_first : (x y : ℕ) (p q r : Bool) → (p ≡ false → q ≡ false → r ≡ true) → (ltb x y || (nat_eq x y && p)) ≡ false → (nat_eq x y && q) ≡ false → (ltb y x || (nat_eq y x && r)) ≡ true
either_first x y p q r f g h = grind (arith, nat_tests, common_steps)

-- of two names one comes before the other
pub octets_lt-total : (a b : List ℕ) → octets_lt a b ≡ false → bytes_eq a b ≡ false → octets_lt b a ≡ true
octets_lt-total [] [] g h = cc
octets_lt-total [] (y ∷ ys) g h = cc
octets_lt-total (x ∷ xs) [] g h = refl
octets_lt-total (x ∷ xs) (y ∷ ys) g h = either_first x y (octets_lt xs ys) (bytes_eq xs ys) (octets_lt ys xs) (octets_lt-total xs ys) g h

before_both : (x y z : ℕ) (p q r : Bool) → (p ≡ true → q ≡ true → r ≡ true) → (ltb x y || (nat_eq x y && p)) ≡ true → (ltb y z || (nat_eq y z && q)) ≡ true → (ltb x z || (nat_eq x z && r)) ≡ true
before_both x y z p q r f g h = grind (arith, nat_tests, common_steps)

-- what comes before a name comes before all that the name comes before
pub octets_lt-transitive : (a b c : List ℕ) → octets_lt a b ≡ true → octets_lt b c ≡ true → octets_lt a c ≡ true
octets_lt-transitive a [] c g h = cc
octets_lt-transitive a (y ∷ ys) [] g h = cc
octets_lt-transitive [] (y ∷ ys) (z ∷ zs) g h = refl
octets_lt-transitive (x ∷ xs) (y ∷ ys) (z ∷ zs) g h = before_both x y z (octets_lt xs ys) (octets_lt ys zs) (octets_lt xs zs) (octets_lt-transitive xs ys zs) g h
