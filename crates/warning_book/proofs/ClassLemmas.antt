-- What classes tell of names.
use Rattle.std.proofs.Common.{◌≡◌, ℕ, ◌+◌, ◌*◌, ◌%◌, ◌^◌, ◌<◌, true, false, ◌&&◌, List, [], ◌∷◌, ◌++◌, min, max, length, get_or, take, refl, sym, ap, ◌∙◌, rules}
use Rattle.std.specs.Int.{bit_at, w128}
use Rattle.std.specs.Prelude.{bit_and, bit_or, bytes_eq, nat_eq}
use Rattle.std.specs.List.{list_any}
use Rattle.std.proofs.lemmas.Bool.{and_parts, and_from, or_from, false_from_ne_true}
use Rattle.std.proofs.lemmas.List.Folds.{list_all_more, list_all-append}
use Rattle.std.proofs.lemmas.Nat.Bits.{bit_at_and, bit_at_or, bit_at-zero, bit_at-lt, bit_at_set_same}
use Rattle.std.proofs.lemmas.Slice.Eq.{bytes_eq-Decides}
use Rattle.common.specs.OrderLaws.{all_same}
use Rattle.warning_book.specs.Classes.{class_of, has_class, have_classes}

-- a name whose class is not among those of the names is none of them
pub none_classed : (classes : ℕ) (a : List ℕ) (xs : List (List ℕ)) → has_class classes a ≡ false → have_classes classes xs ≡ true → list_any (λ b. bytes_eq b a) xs ≡ false
none_classed classes a [] h g = refl
none_classed classes a (x ∷ xs) h g =
    let here = and_parts (has_class classes x) (have_classes classes xs) g in
    or_from (bytes_eq x a) (list_any (λ b. bytes_eq b a) xs) (false_from_ne_true (bytes_eq x a) (λ e. let no : true ≡ false = sym here.0 ∙ ap (has_class classes) ((bytes_eq-Decides x a).0 e) ∙ h in cc)) (none_classed classes a xs h here.1)

-- of two numbers without a digit 1 in the same place
apart : (m n i : ℕ) → bit_and m n ≡ 0 → nat_eq (bit_at n i) 1 ≡ true → nat_eq (bit_at m i) 1 ≡ false
apart m n i e h =
    let none : min (bit_at m i) (bit_at n i) ≡ 0 = sym (bit_at_and m n i) ∙ ap (λ k. bit_at k i) e ∙ bit_at-zero i in
    search rules

-- where no class is among both, no name is
pub none_met : (m n : ℕ) → bit_and m n ≡ 0 → (xs ys : List (List ℕ)) → have_classes m xs ≡ true → have_classes n ys ≡ true → list_any (λ y. list_any (λ x. bytes_eq x y) xs) ys ≡ false
none_met m n e xs [] h g = refl
none_met m n e xs (y ∷ ys) h g =
    let here = and_parts (has_class n y) (have_classes n ys) g in
    or_from (list_any (λ x. bytes_eq x y) xs) (list_any (λ z. list_any (λ x. bytes_eq x z) xs) ys) (none_classed m y xs (apart m n (class_of y) e here.0) h) (none_met m n e xs ys h here.1)

-- the classes that were there are there still
pub class_kept : (classes other : ℕ) (a : List ℕ) → has_class classes a ≡ true → has_class (bit_or classes other) a ≡ true
class_kept classes other a h =
    let both : bit_at (bit_or classes other) (class_of a) ≡ max (bit_at classes (class_of a)) (bit_at other (class_of a)) = bit_at_or classes other (class_of a) in
    let few = bit_at-lt other (class_of a) in
    search rules

pub class_there : (classes k : ℕ) (a : List ℕ) → k < 128 → k ≡ class_of a → has_class (bit_or classes (1 * 2 ^ k % 2 ^ 128)) a ≡ true
class_there classes k a h e = ap (λ i. nat_eq (bit_at (bit_or classes (1 * 2 ^ k % 2 ^ 128)) i) 1) (sym e) ∙ ap (λ d. nat_eq d 1) (bit_at_set_same w128 classes k h)

-- one name further
pub classes_more : (old new : ℕ) (xs : List (List ℕ)) (i : ℕ) (d : List ℕ) → ((b : List ℕ) → has_class old b ≡ true → has_class new b ≡ true) → has_class new (get_or xs i d) ≡ true → i < length xs → have_classes old (take i xs) ≡ true → have_classes new (take (i + 1) xs) ≡ true
classes_more old new xs i d more own h g =
    list_all_more (has_class new) xs i d h ∙ and_from (have_classes new (take i xs)) (has_class new (get_or xs i d)) (all_same (has_class old) (has_class new) more (take i xs) g) own

-- one name more, last
pub classes_last : (old new : ℕ) (xs : List (List ℕ)) (a : List ℕ) → ((b : List ℕ) → has_class old b ≡ true → has_class new b ≡ true) → has_class new a ≡ true → have_classes old xs ≡ true → have_classes new (xs ++ a ∷ []) ≡ true
classes_last old new xs a more own h =
    list_all-append (has_class new) xs (a ∷ []) ∙ and_from (have_classes new xs) (has_class new a && true) (all_same (has_class old) (has_class new) more xs h) (and_from (has_class new a) true own refl)
