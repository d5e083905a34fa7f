-- The numbers of places stand in the order of the places.
use Rattle.std.proofs.Common.{◌≡◌, arith, ℕ, ◌/◌, ◌%◌, ◌^◌, ◌∙◌, ap}
use Rattle.std.specs.Ordering.{ordering_then, nat_cmp}
use Rattle.mirror.specs.Order.{place_cmp, place_in}
use Rattle.mirror.specs.PartsLaws.{by_parts}

cut_bsc : (m n : ℕ) → nat_cmp m n ≡ ordering_then (nat_cmp (m / 2 ^ 32) (n / 2 ^ 32)) (nat_cmp (m % 2 ^ 32) (n % 2 ^ 32))
cut_bsc m n = by_parts m n (m / 2 ^ 32) (n / 2 ^ 32) (m % 2 ^ 32) (n % 2 ^ 32) (λ h. omega (arith, h)) (λ h. omega (arith, h)) (λ e h. omega (arith, e, h)) (λ e h. omega (arith, e, h)) (λ e h. omega (arith, e, h))

cut_cell : (m n : ℕ) → nat_cmp (m % 2 ^ 32) (n % 2 ^ 32) ≡ ordering_then (nat_cmp (m % 2 ^ 32 / 2 ^ 16) (n % 2 ^ 32 / 2 ^ 16)) (nat_cmp (m % 2 ^ 16) (n % 2 ^ 16))
cut_cell m n = by_parts (m % 2 ^ 32) (n % 2 ^ 32) (m % 2 ^ 32 / 2 ^ 16) (n % 2 ^ 32 / 2 ^ 16) (m % 2 ^ 16) (n % 2 ^ 16) (λ h. omega (arith, h)) (λ h. omega (arith, h)) (λ e h. omega (arith, e, h)) (λ e h. omega (arith, e, h)) (λ e h. omega (arith, e, h))

pub number_cmp : (m n : ℕ) → nat_cmp m n ≡ place_cmp (place_in m) (place_in n)
number_cmp m n = cut_bsc m n ∙ ap (ordering_then (nat_cmp (m / 2 ^ 32) (n / 2 ^ 32))) (cut_cell m n)
