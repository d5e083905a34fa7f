-- The numbers from one to another.
use Rattle.std.proofs.Common.{◌≡◌, ℕ, ◌+◌, ◌-◌, ◌<◌, ◌≤◌, suc, zero, [], ◌∷◌, ap, arith}
use Rattle.std.specs.List.{range_with_len}

pub range_more : (a n : ℕ) → a < n → range_with_len a (n - a) ≡ a ∷ range_with_len (a + 1) (n - (a + 1))
range_more a n h = let e : n - a ≡ suc (n - (a + 1)) = omega arith in ap (range_with_len a) e

pub range_end : (a n : ℕ) → n ≤ a → range_with_len a (n - a) ≡ []
range_end a n h = let e : n - a ≡ zero = omega arith in ap (range_with_len a) e
