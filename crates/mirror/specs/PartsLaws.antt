-- Numbers that hold parts side by side stand in the order of their parts, compared one after another.
use Rattle.std.proofs.Common.{◌≡◌, arith, ℕ, ◌<◌, Bool, true, false, ltb, refl, sym, ◌∙◌, ap}
use Rattle.std.proofs.lemmas.Bool.Decides.{nat_tests}
use Rattle.std.proofs.lemmas.Grind.{common_steps}
use Rattle.std.specs.Ordering.{ordering_then, nat_cmp}
use Rattle.std.specs.declared.cmp.Ordering.TheVariants.{Less, Equal, Greater}

less : (m n : ℕ) → m < n → nat_cmp m n ≡ Less
less m n h = grind (arith, nat_tests, common_steps)

greater : (m n : ℕ) → n < m → nat_cmp m n ≡ Greater
greater m n h = grind (arith, nat_tests, common_steps)

tie : (m n : ℕ) → m ≡ n → nat_cmp m n ≡ Equal
tie m n h = grind (arith, nat_tests, common_steps)

-- where the higher parts differ they decide, and where they tie the lower ones do
pub by_parts : (m n q r s t : ℕ) → (q < r → m < n) → (r < q → n < m) → (q ≡ r → s < t → m < n) → (q ≡ r → t < s → n < m) → (q ≡ r → s ≡ t → m ≡ n) → nat_cmp m n ≡ ordering_then (nat_cmp q r) (nat_cmp s t)
by_parts m n q r s t a b c d e = high (ltb q r) refl (ltb r q) refl
  where
    low : q ≡ r → (x : Bool) → ltb s t ≡ x → (y : Bool) → ltb t s ≡ y → nat_cmp m n ≡ nat_cmp s t
    low same true f y g = let h : s < t = grind (arith, nat_tests, f) in less m n (c same h) ∙ sym (less s t h)
    low same false f true g = let h : t < s = grind (arith, nat_tests, g) in greater m n (d same h) ∙ sym (greater s t h)
    low same false f false g = let h : s ≡ t = grind (arith, nat_tests, f, g) in tie m n (e same h) ∙ sym (tie s t h)

    high : (x : Bool) → ltb q r ≡ x → (y : Bool) → ltb r q ≡ y → nat_cmp m n ≡ ordering_then (nat_cmp q r) (nat_cmp s t)
    high true f y g = let h : q < r = grind (arith, nat_tests, f) in less m n (a h) ∙ ap (λ o. ordering_then o (nat_cmp s t)) (sym (less q r h))
    high false f true g = let h : r < q = grind (arith, nat_tests, g) in greater m n (b h) ∙ ap (λ o. ordering_then o (nat_cmp s t)) (sym (greater q r h))
    high false f false g = let h : q ≡ r = grind (arith, nat_tests, f, g) in low h (ltb s t) refl (ltb t s) refl ∙ ap (λ o. ordering_then o (nat_cmp s t)) (sym (tie q r h))
