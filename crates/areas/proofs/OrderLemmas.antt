-- Names in the order of their octets, from an octet on.
use Rattle.std.proofs.Common.{◌≡◌, ◌∙◌, ◌<◌, ◌≤◌, ℕ, Bool, true, false, List, [], ◌∷◌, length, drop, ltb, refl, sym, ap, arith}
use Rattle.std.proofs.Math.Seq.{drop-cons}
use Rattle.std.proofs.lemmas.Bool.Decides.{nat_tests}
use Rattle.std.proofs.lemmas.List.{drop_all}
use Rattle.areas.specs.Name.{octets_lt}

-- no name comes before one that has ended
second_ends : (a b : List ℕ) (i : ℕ) → length b ≤ i → false ≡ octets_lt (drop i a) (drop i b)
second_ends a b i h = sym (ap (octets_lt (drop i a)) (drop_all i b h) ∙ none_before (drop i a))
  where
    none_before : (xs : List ℕ) → octets_lt xs [] ≡ false
    none_before [] = refl
    none_before (x ∷ xs) = refl

-- a name that has ended comes before a longer one
pub first_ends : (a b : List ℕ) (i : ℕ) → length a ≡ i → ltb (length a) (length b) ≡ octets_lt (drop i a) (drop i b)
first_ends a b i h = step (ltb i (length b)) refl
  where
    step : (t : Bool) → ltb i (length b) ≡ t → ltb (length a) (length b) ≡ octets_lt (drop i a) (drop i b)
    step true e =
        let within : i < length b = grind (arith, nat_tests) in
        ap (λ n. ltb n (length b)) h ∙ e ∙ sym (ap (λ t. octets_lt t (drop i b)) (drop_all i a (omega arith)) ∙ ap (octets_lt []) (drop-cons b i 0 within))
    step false e =
        let past : length b ≤ i = grind (arith, nat_tests) in
        ap (λ n. ltb n (length b)) h ∙ e ∙ second_ends a b i past
