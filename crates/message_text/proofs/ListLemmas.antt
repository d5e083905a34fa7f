-- What is left of a list, one element further.
use Rattle.std.proofs.Common.{◌≡◌, ℕ, ◌+◌, ◌<◌, List, ◌∷◌, ◌++◌, length, drop, get_or, ap, sym, ◌∙◌, append_assoc, subst}
use Rattle.std.proofs.lemmas.List.{drop_more}
use Rattle.std.specs.List.{AllByRecursion, flat_map}

-- what is left begins with the element that a loop is at
pub rest_begins : {X : Type 0} (xs : List X) (i : ℕ) (d x : X) → i < length xs → x ≡ get_or xs i d → drop i xs ≡ x ∷ drop (i + 1) xs
rest_begins xs i d x h e = drop_more xs i d h ∙ ap (λ y. y ∷ drop (i + 1) xs) (sym e)

pub rest_all : {X : Type 0} (P : X → Type 0) (xs : List X) (i : ℕ) (d x : X) → i < length xs → x ≡ get_or xs i d → AllByRecursion P (drop i xs)
    → P x × AllByRecursion P (drop (i + 1) xs)
rest_all {X} P xs i d x h e all = subst (λ (ys : List X). AllByRecursion P ys) (rest_begins xs i d x h e) all

-- what a list makes in all: what is made so far, and what the rest makes
pub rest_made : {X : Type 0} (f : X → List ℕ) (xs : List X) (i : ℕ) (d x : X) (made : List ℕ) → i < length xs → x ≡ get_or xs i d
    → made ++ flat_map f (drop i xs) ≡ flat_map f xs → (made ++ f x) ++ flat_map f (drop (i + 1) xs) ≡ flat_map f xs
rest_made f xs i d x made h e so_far =
    append_assoc made (f x) (flat_map f (drop (i + 1) xs)) ∙ sym (ap (λ ys. made ++ flat_map f ys) (rest_begins xs i d x h e)) ∙ so_far
