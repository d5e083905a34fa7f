-- The areas of a warning as the keys of a set.
use Rattle.std.proofs.Common.{◌≡◌, ℕ, zero, suc, ◌<◌, Bool, true, false, not, cond, List, [], ◌∷◌, ◌++◌, length, get_or, take, refl, ap, ◌∙◌, arith}
use Rattle.std.specs.Prelude.{bytes_eq}
use Rattle.std.specs.List.{list_any}
use Rattle.std.proofs.lemmas.Bool.{and_parts, or_parts, or_from, not-true}
use Rattle.std.proofs.lemmas.Slice.Eq.{bytes_eq-Decides}
use Rattle.indexmap.specs.IndexSet.{insert_key}
use Rattle.common.specs.OnceLaws.{any_turned}
use Rattle.common.specs.Order.{each_once}

-- a name that is not among them goes last
pub new_last : (a : List ℕ) (xs : List (List ℕ)) → list_any (λ b. bytes_eq b a) xs ≡ false → insert_key bytes_eq xs a ≡ xs ++ a ∷ []
new_last a xs h = ap (λ t. cond t xs (xs ++ a ∷ [])) (any_turned bytes_eq bytes_eq-Decides a xs ∙ h)

none_at : {X : Type 0} (p : X → Bool) (xs : List X) (i : ℕ) (d : X) → list_any p xs ≡ false → i < length xs → p (get_or xs i d) ≡ false
none_at p [] i d h g = absurd (omega arith)
none_at p (x ∷ xs) zero d h g = (or_parts (p x) (list_any p xs) h).0
none_at p (x ∷ xs) (suc i) d h g = none_at p xs i d (or_parts (p x) (list_any p xs) h).1 (omega arith)

-- of names that stand once none stands before its place
pub none_before : (xs : List (List ℕ)) (i : ℕ) (d : List ℕ) → each_once bytes_eq xs ≡ true → i < length xs → list_any (λ b. bytes_eq b (get_or xs i d)) (take i xs) ≡ false
none_before [] i d h g = absurd (omega arith)
none_before (x ∷ xs) zero d h g = refl
none_before (x ∷ xs) (suc i) d h g =
    let parts = and_parts (not (list_any (bytes_eq x) xs)) (each_once bytes_eq xs) h in
    or_from (bytes_eq x (get_or xs i d)) (list_any (λ b. bytes_eq b (get_or xs i d)) (take i xs)) (none_at (bytes_eq x) xs i d (not-true (list_any (bytes_eq x) xs) parts.0) (omega arith)) (none_before xs i d parts.1 (omega arith))
