-- Wishes without the one for a BSC: they are fewer where there is one, and none is for that BSC. With one, it is the one for its BSC.
use Rattle.std.proofs.Common.{◌≡◌, ℕ, ◌<◌, ◌≤◌, Bool, true, false, not, List, [], ◌∷◌, None, Some, IsSome, length, cond, refl, sym, ap, arith, true≢false, subst}
use Rattle.std.proofs.lemmas.Bool.Decides.{nat_tests}
use Rattle.std.specs.List.{list_any}
use Rattle.common.specs.OnceLaws.{once_filter, once_last}
use Rattle.common.specs.OrderLaws.{length_filter}
use Rattle.office.specs.Helds.{HasEachOnce}
use Rattle.office.specs.Wishes.{is_same_bsc, is_wish_of, wish_for, with_wish, without_wish}
use Rattle.office.specs.declared.wish.Wish.{Wish}

pub shorter : (b : ℕ) (ws : List Wish) → IsSome (wish_for ws b) → length (without_wish b ws) < length ws
shorter b [] is = absurd (true≢false (sym is))
shorter b (w ∷ ws) is = step (shorter b ws) (is_wish_of b w) refl
  where
    step : (IsSome (wish_for ws b) → length (without_wish b ws) < length ws) → (t : Bool) → is_wish_of b w ≡ t → length (without_wish b (w ∷ ws)) < length (w ∷ ws)
    step rest true e = let le : length (without_wish b ws) ≤ length ws = length_filter (λ v. not (is_wish_of b v)) ws in rw e (omega (arith, le))
    step rest false e = let lt : length (without_wish b ws) < length ws = rest (subst (λ t. IsSome (cond t (Some w) (wish_for ws b))) e is) in rw e (omega (arith, lt))

-- no wish for other BSCs is for the BSC
none_left : (w : Wish) (ws : List Wish) → list_any (λ v. is_same_bsc v w) (without_wish w.bsc ws) ≡ false
none_left w [] = refl
none_left w (v ∷ ws) = step (none_left w ws) (is_wish_of w.bsc v) refl
  where
    step : list_any (λ x. is_same_bsc x w) (without_wish w.bsc ws) ≡ false → (t : Bool) → is_wish_of w.bsc v ≡ t → list_any (λ x. is_same_bsc x w) (without_wish w.bsc (v ∷ ws)) ≡ false
    step rest true e = rw e rest
    step rest false e = rw e (rw e rest)

pub once_without : (b : ℕ) (ws : List Wish) → HasEachOnce ws → HasEachOnce (without_wish b ws)
once_without b ws once = once_filter is_same_bsc (λ v. not (is_wish_of b v)) ws once

pub once_with : (w : Wish) (ws : List Wish) → HasEachOnce ws → HasEachOnce (with_wish w ws)
once_with w ws once = once_last is_same_bsc w (without_wish w.bsc ws) (none_left w ws) (once_without w.bsc ws once)

of_its_bsc : (w : Wish) → is_wish_of w.bsc w ≡ true
of_its_bsc w = grind (arith, nat_tests)

-- the wish that is kept is the one for its BSC
pub wish_found : (w : Wish) (ws : List Wish) → wish_for (with_wish w ws) w.bsc ≡ Some w
wish_found w [] = ap (λ t. cond t (Some w) None) (of_its_bsc w)
wish_found w (v ∷ ws) = step (wish_found w ws) (is_wish_of w.bsc v) refl
  where
    step : wish_for (with_wish w ws) w.bsc ≡ Some w → (t : Bool) → is_wish_of w.bsc v ≡ t → wish_for (with_wish w (v ∷ ws)) w.bsc ≡ Some w
    step rest true e = rw e rest
    step rest false e = rw e (rw e rest)
