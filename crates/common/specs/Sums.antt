-- Sums over a list, and counts of its elements.
use Rattle.std.specs.Prelude.{ℕ, ◌+◌, Bool, List, [], ◌∷◌, if◌then◌else◌}

-- 1 where it holds, else 0
abbrev pub one : Bool → ℕ
one b = if b then 1 else 0

-- the sum of f over a list
abbrev pub sum_of : {A : Type 0} → (A → ℕ) → List A → ℕ
sum_of f [] = 0
sum_of f (x ∷ xs) = f x + sum_of f xs

-- how many elements of a list pass the test
abbrev pub count_of : {A : Type 0} → (A → Bool) → List A → ℕ
count_of p xs = sum_of (λ x. one (p x)) xs
