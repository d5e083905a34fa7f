-- A generation that takes the place of another.
use Rattle.std.proofs.Common.{◌≡◌, ℕ, zero, suc, ◌<◌, eqb, true, List, [], ◌∷◌, ◌++◌, length, take, drop, set, get_or, refl, ap, arith}
use Rattle.console.specs.Generations.{kept, with_generation}
use Rattle.console.specs.declared.kept.Kept.{Kept}

pub generation_set : (xs : List Kept) (i b generation : ℕ) (d : Kept) → i < length xs → eqb (get_or xs i d).bsc b ≡ true
    → set xs i (kept b generation) ≡ take i xs ++ with_generation b generation (drop i xs)
generation_set [] i b generation d short same = absurd (omega arith)
generation_set (k ∷ ks) zero b generation d short same = rw same refl
generation_set (k ∷ ks) (suc i) b generation d short same = ap (λ xs. k ∷ xs) (generation_set ks i b generation d (omega arith) same)
