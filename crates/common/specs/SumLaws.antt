-- What holds of sums. A sum is the same over any two lists, each element once, outside which the function is 0.
use Rattle.std.proofs.Common.{◌≡◌, ℕ, ◌+◌, Bool, true, false, ◌||◌, not, List, [], ◌∷◌, ◌++◌, if◌then◌else◌, refl, sym, ◌∙◌, ap, arith}
use Rattle.std.proofs.lemmas.Bool.{and_parts, or_parts, not-true}
use Rattle.std.specs.List.{list_any, flat_map}
use Rattle.common.specs.OnceLaws.{DecidesAll, turned}
use Rattle.common.specs.Order.{each_once}
use Rattle.common.specs.Sums.{one, sum_of, count_of}

-- equal functions have equal sums
pub sum_same : {A : Type 0} (f g : A → ℕ) → ((x : A) → f x ≡ g x) → (xs : List A) → sum_of f xs ≡ sum_of g xs
sum_same f g e [] = refl
sum_same f g e (x ∷ xs) = rw (e x, sum_same f g e xs) refl

-- where a function is 0 everywhere, so is its sum
pub sum_none : {A : Type 0} (f : A → ℕ) → ((x : A) → f x ≡ 0) → (xs : List A) → sum_of f xs ≡ 0
sum_none f e [] = refl
sum_none f e (x ∷ xs) = let rest = sum_none f e xs in let here = e x in omega arith

-- the sum over one list behind another
pub sum_append : {A : Type 0} (f : A → ℕ) (xs ys : List A) → sum_of f (xs ++ ys) ≡ sum_of f xs + sum_of f ys
sum_append f [] ys = omega arith
sum_append f (x ∷ xs) ys = omega (arith, sum_append f xs ys)

-- the count over one list behind another
pub count_append : {A : Type 0} (p : A → Bool) (xs ys : List A) → count_of p (xs ++ ys) ≡ count_of p xs + count_of p ys
count_append p xs ys = sum_append (λ x. one (p x)) xs ys

-- the count over what the parts come to is the sum of the counts over each part
pub count_flat_map : {A B : Type 0} (p : B → Bool) (f : A → List B) (xs : List A) → count_of p (flat_map f xs) ≡ sum_of (λ x. count_of p (f x)) xs
count_flat_map p f [] = refl
count_flat_map p f (x ∷ xs) = count_append p (f x) (flat_map f xs) ∙ ap (λ n. count_of p (f x) + n) (count_flat_map p f xs)

-- the function, but 0 at one element
abbrev pub besides : {A : Type 0} → (A → A → Bool) → A → (A → ℕ) → A → ℕ
besides same a f x = if same a x then 0 else f x

-- where the element does not stand in the list, the sum is the same
besides_absent : {A : Type 0} (same : A → A → Bool) (a : A) (f : A → ℕ) (xs : List A) → list_any (same a) xs ≡ false → sum_of (besides same a f) xs ≡ sum_of f xs
besides_absent same a f [] h = refl
besides_absent same a f (x ∷ xs) h =
    let parts = or_parts (same a x) (list_any (same a) xs) h in
    let here : besides same a f x ≡ f x = ap (λ t. if t then 0 else f x) parts.0 in
    rw (here, besides_absent same a f xs parts.1) refl

-- where it stands there once, the sum is less by what the function is there
besides_there : {A : Type 0} (same : A → A → Bool) → DecidesAll same → (a : A) (f : A → ℕ) (xs : List A) → each_once same xs ≡ true → list_any (same a) xs ≡ true → sum_of (besides same a f) xs + f a ≡ sum_of f xs
besides_there same d a f [] once h = cc
besides_there same d a f (x ∷ xs) once h = step (besides_there same d a f xs (and_parts (not (list_any (same x) xs)) (each_once same xs) once).1) (same a x) refl h
  where
    step : (list_any (same a) xs ≡ true → sum_of (besides same a f) xs + f a ≡ sum_of f xs) → (t : Bool) → same a x ≡ t → (t || list_any (same a) xs) ≡ true → besides same a f x + sum_of (besides same a f) xs + f a ≡ f x + sum_of f xs
    step more true e g =
        let is : a ≡ x = (d a x).0 e in
        let none : list_any (same a) xs ≡ false = ap (λ k. list_any (same k) xs) is ∙ not-true (list_any (same x) xs) (and_parts (not (list_any (same x) xs)) (each_once same xs) once).0 in
        let here : besides same a f x ≡ 0 = ap (λ t. if t then 0 else f x) e in
        let rest = besides_absent same a f xs none in
        let value : f a ≡ f x = ap f is in
        omega arith
    step more false e g =
        let here : besides same a f x ≡ f x = ap (λ t. if t then 0 else f x) e in
        omega (arith, more g)

-- over two lists, each element once, outside which the function is 0, the sums are equal
pub sums_agree : {A : Type 0} (same : A → A → Bool) → DecidesAll same → (xs ys : List A) → each_once same xs ≡ true → each_once same ys ≡ true → (f : A → ℕ) → ((x : A) → list_any (same x) xs ≡ false → f x ≡ 0) → ((x : A) → list_any (same x) ys ≡ false → f x ≡ 0) → sum_of f xs ≡ sum_of f ys
sums_agree same d [] ys once also f out off = sym (sum_none f (λ x. out x refl) ys)
sums_agree {A} same d (x ∷ xs) ys once also f out off =
    step (sums_agree same d xs ys parts.1 also (besides same x f) (λ z h. out_at z h (same x z) refl) (λ z h. off_at z h (same x z))) (list_any (same x) ys) refl
  where
    parts : (not (list_any (same x) xs) ≡ true) × (each_once same xs ≡ true)
    parts = and_parts (not (list_any (same x) xs)) (each_once same xs) once

    out_at : (z : A) → list_any (same z) xs ≡ false → (t : Bool) → same x z ≡ t → (if t then 0 else f z) ≡ 0
    out_at z h true e = refl
    out_at z h false e = out z (ap (λ t. t || list_any (same z) xs) (turned same d z x ∙ e) ∙ h)

    off_at : (z : A) → list_any (same z) ys ≡ false → (t : Bool) → (if t then 0 else f z) ≡ 0
    off_at z h true = refl
    off_at z h false = off z h

    mine : sum_of (besides same x f) xs ≡ sum_of f xs
    mine = besides_absent same x f xs (not-true (list_any (same x) xs) parts.0)

    step : sum_of (besides same x f) xs ≡ sum_of (besides same x f) ys → (t : Bool) → list_any (same x) ys ≡ t → f x + sum_of f xs ≡ sum_of f ys
    step rest true e = let there = besides_there same d x f ys also e in omega (arith, rest, mine)
    step rest false e =
        let here : f x ≡ 0 = off x e in
        let there = besides_absent same x f ys e in
        omega (arith, rest, mine)
