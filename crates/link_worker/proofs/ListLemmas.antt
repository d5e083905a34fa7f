-- Lists, one behind another.
use Rattle.std.proofs.Common.{◌≡◌, ◌-◌, List, [], ◌∷◌, ◌++◌, Some, length, get_or, sym, ap, ◌∙◌, arith, length-append}
use Rattle.std.specs.List.{AllByRecursion}
use Rattle.std.specs.Prelude.{slice_get}
use Rattle.std.proofs.Math.Seq.{get_or-append_seam}
use Rattle.std.proofs.lemmas.Option.{get_or_from_slice_get}

-- what holds of all of one list and of all of another holds of both joined
pub AllByRecursion-append : {X : Type 0} (P : X → Type 0) (xs ys : List X) → AllByRecursion P xs → AllByRecursion P ys → AllByRecursion P (xs ++ ys)
AllByRecursion-append P [] ys p q = q
AllByRecursion-append P (x ∷ xs) ys p q = (p.0, AllByRecursion-append P xs ys p.1 q)

-- and of a front
pub AllByRecursion-front : {X : Type 0} (P : X → Type 0) (xs ys : List X) → AllByRecursion P (xs ++ ys) → AllByRecursion P xs
AllByRecursion-front P [] ys p = tt
AllByRecursion-front P (x ∷ xs) ys p = (p.0, AllByRecursion-front P xs ys p.1)

-- and of what is behind
pub AllByRecursion-back : {X : Type 0} (P : X → Type 0) (xs ys : List X) → AllByRecursion P (xs ++ ys) → AllByRecursion P ys
AllByRecursion-back P [] ys p = p
AllByRecursion-back P (x ∷ xs) ys p = AllByRecursion-back P xs ys p.1

-- the last element is the one that was put there
pub last_put : {X : Type 0} (xs all : List X) (x y : X) → all ≡ xs ++ x ∷ [] → slice_get all (length all - 1) ≡ Some y → y ≡ x
last_put xs all x y is at =
    let where_it_is : length all - 1 ≡ length xs = omega (arith, ap length is, length-append xs (x ∷ [])) in
    sym (get_or_from_slice_get all (length all - 1) y x at) ∙ ap (λ k. get_or all k x) where_it_is ∙ ap (λ l. get_or l (length xs) x) is ∙ get_or-append_seam xs x [] x
