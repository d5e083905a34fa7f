-- With how many of the same two words begin.
use Rattle.std.proofs.Common.{◌≡◌, ◌∙◌, ℕ, ◌+◌, List, [], ◌∷◌, drop, length, arith, ap, refl}
use Rattle.std.proofs.Math.Seq.{drop-length}
use Rattle.line_faults.specs.Nearest.{same_front}

-- no word begins as one without letters
same_none : (xs : List ℕ) → same_front xs [] ≡ 0
same_none [] = refl
same_none (x ∷ xs) = refl

-- where one word is at its end, as many are the same as it has letters
pub same_ended : (n : ℕ) (xs ys : List ℕ) → n ≡ length ys → same_front (drop n xs) (drop n ys) + n ≡ same_front xs ys → n ≡ same_front xs ys
same_ended n xs ys end same =
    let none : drop n ys ≡ [] = ap (λ k. drop k ys) end ∙ drop-length ys in
    let zero : same_front (drop n xs) (drop n ys) ≡ 0 = ap (same_front (drop n xs)) none ∙ same_none (drop n xs) in
    omega (arith, zero, same)
