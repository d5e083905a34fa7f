-- Some of the areas of a warning, as a number: a binary digit for each, that of the first area lowest.
use Rattle.std.specs.Prelude.{◌≡◌, ℕ, zero, suc, ◌+◌, ◌*◌, ◌/◌, ◌%◌, ◌<◌, Bool, true, ◌==◌, List, [], ◌∷◌, bytes_eq, length, if◌then◌else◌}
use Rattle.common.specs.Order.{each_once}
use Rattle.common.specs.Sums.{one}

-- the digits of the elements that pass the test
abbrev pub mask : {A : Type 0} → (A → Bool) → List A → ℕ
mask p [] = 0
mask p (x ∷ rest) = one (p x) + 2 * mask p rest

-- the names whose digits are 1
abbrev pub names_at : ℕ → List (List ℕ) → List (List ℕ)
names_at bits [] = []
names_at bits (a ∷ rest) = if bits % 2 == 1 then a ∷ names_at (bits / 2) rest else names_at (bits / 2) rest

-- two to that power
abbrev pub power : ℕ → ℕ
power zero = 1
power (suc n) = 2 * power n

-- the number has no digit but those of the names, of which none stands twice
pub record AreDigits (bits : ℕ) (names : List (List ℕ)) : Type 0 where
  pub few : bits < power (length names)
  pub once : each_once bytes_eq names ≡ true
