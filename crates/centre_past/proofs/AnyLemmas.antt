-- Whether some element of a list passes a test, or all do.
use Rattle.std.proofs.Common.{◌≡◌, Bool, true, false, ◌&&◌, ◌||◌, not, List, [], ◌∷◌, ◌++◌, reverse, refl, sym, ◌∙◌, ap}
use Rattle.std.proofs.lemmas.Bool.{or_right, or_parts, and_from}
use Rattle.std.proofs.lemmas.List.Folds.{list_any-append, list_all-append}
use Rattle.std.proofs.lemmas.List.Sorted.{list_any-IsPermutation, IsPermutation-reverse}
use Rattle.std.specs.Prelude.{if◌then◌else◌}
use Rattle.std.specs.List.{filter, list_any, list_all, flat_map}
use Rattle.common.specs.OnceLaws.{DecidesAll}

pub or_none : (a : Bool) → (a || false) ≡ a
or_none true = refl
or_none false = refl

pub and_none : (a : Bool) → (a && false) ≡ false
and_none true = refl
and_none false = refl

-- what is not so, since what follows from it is not
pub contrary : (t q : Bool) → (t ≡ true → q ≡ true) → q ≡ false → t ≡ false
contrary true q f h = let no : true ≡ false = sym (f refl) ∙ h in cc
contrary false q f h = refl

-- what two parts of an `or` have in common
pub and_over_or : (x a b : Bool) → ((x && a) || (x && b)) ≡ (x && (a || b))
and_over_or true a b = refl
and_over_or false a b = refl

-- tests that agree pass together
pub any_same : {X : Type 0} (p q : X → Bool) → ((x : X) → p x ≡ q x) → (xs : List X) → list_any p xs ≡ list_any q xs
any_same p q e [] = refl
any_same p q e (x ∷ xs) = ap (λ t. t || list_any p xs) (e x) ∙ ap (λ t. q x || t) (any_same p q e xs)

pub any_never : {X : Type 0} (xs : List X) → list_any (λ (x : X). false) xs ≡ false
any_never [] = refl
any_never (x ∷ xs) = any_never xs

-- what does not depend on the element comes out
pub any_pulled : {X : Type 0} (k : Bool) (p : X → Bool) (xs : List X) → list_any (λ x. k && p x) xs ≡ (k && list_any p xs)
any_pulled true p xs = refl
any_pulled false p xs = any_never xs

-- one that passes is enough
pub any_implies : {X : Type 0} (p q : X → Bool) → ((x : X) → p x ≡ true → q x ≡ true) → (xs : List X) → list_any p xs ≡ true → list_any q xs ≡ true
any_implies p q e [] h = h
any_implies p q e (x ∷ xs) h = step (any_implies p q e xs) (p x) refl h
  where
    step : (list_any p xs ≡ true → list_any q xs ≡ true) → (t : Bool) → p x ≡ t → (t || list_any p xs) ≡ true → (q x || list_any q xs) ≡ true
    step rest true passes g = ap (λ u. u || list_any q xs) (e x passes)
    step rest false fails g = or_right (q x) (list_any q xs) (rest g)

-- what passes is enough where it is one of the list
pub any_at : {X : Type 0} (same : X → X → Bool) → DecidesAll same → (p : X → Bool) (x : X) (xs : List X) → p x ≡ true → list_any (same x) xs ≡ true → list_any p xs ≡ true
any_at same d p x xs h there = any_implies (same x) p (λ y e. ap p (sym ((d x y).0 e)) ∙ h) xs there

-- what follows from each that passes follows from one that does
pub any_gives : {X : Type 0} (q : Bool) (p : X → Bool) → ((x : X) → p x ≡ true → q ≡ true) → (xs : List X) → list_any p xs ≡ true → q ≡ true
any_gives q p e [] h = cc
any_gives q p e (x ∷ xs) h = step (any_gives q p e xs) (p x) refl h
  where
    step : (list_any p xs ≡ true → q ≡ true) → (t : Bool) → p x ≡ t → (t || list_any p xs) ≡ true → q ≡ true
    step rest true f g = e x f
    step rest false f g = rest g

-- what passes in a part of a list is in the list
pub any_filter : {X : Type 0} (p q : X → Bool) (xs : List X) → list_any p (filter q xs) ≡ true → list_any p xs ≡ true
any_filter p q [] h = cc
any_filter {X} p q (x ∷ xs) h = step (any_filter p q xs) (q x) h
  where
    step : (list_any p (filter q xs) ≡ true → list_any p xs ≡ true) → (t : Bool) → list_any p (if t then x ∷ filter q xs else filter q xs) ≡ true → (p x || list_any p xs) ≡ true
    step rest true g = at (p x) g
      where
        at : (u : Bool) → (u || list_any p (filter q xs)) ≡ true → (u || list_any p xs) ≡ true
        at true k = refl
        at false k = rest k
    step rest false g = or_right (p x) (list_any p xs) (rest g)

-- what passes where none does that is left out is in the rest of a list
pub any_but : {X : Type 0} (p q : X → Bool) (xs : List X) → list_any (λ x. q x && p x) xs ≡ false → list_any p xs ≡ true → list_any p (filter (λ x. not (q x)) xs) ≡ true
any_but p q [] h g = cc
any_but {X} p q (x ∷ xs) h g = step (q x) parts.0 (any_but p q xs parts.1) g
  where
    parts : ((q x && p x) ≡ false) × (list_any (λ y. q y && p y) xs ≡ false)
    parts = or_parts (q x && p x) (list_any (λ y. q y && p y) xs) h

    step : (t : Bool) → (t && p x) ≡ false → (list_any p xs ≡ true → list_any p (filter (λ y. not (q y)) xs) ≡ true) → (p x || list_any p xs) ≡ true → list_any p (if not t then x ∷ filter (λ y. not (q y)) xs else filter (λ y. not (q y)) xs) ≡ true
    step true e rest k = rest (sym (ap (λ u. u || list_any p xs) e) ∙ k)
    step false e rest k = at (p x) k
      where
        at : (u : Bool) → (u || list_any p xs) ≡ true → (u || list_any p (filter (λ y. not (q y)) xs)) ≡ true
        at true l = refl
        at false l = rest l

-- a part of some element passes where one in a list of all parts does
pub any_flat : {X Y : Type 0} (p : Y → Bool) (f : X → List Y) (xs : List X) → list_any p (flat_map f xs) ≡ list_any (λ x. list_any p (f x)) xs
any_flat p f [] = refl
any_flat p f (x ∷ xs) = list_any-append p (f x) (flat_map f xs) ∙ ap (λ t. list_any p (f x) || t) (any_flat p f xs)

-- the order does not matter
pub any_reverse : {X : Type 0} (p : X → Bool) (xs : List X) → list_any p (reverse xs) ≡ list_any p xs
any_reverse p xs = sym (list_any-IsPermutation p xs (reverse xs) (IsPermutation-reverse xs))

-- where all of two lists pass, all of both do
pub all_joined : {X : Type 0} (p : X → Bool) (xs ys : List X) → list_all p xs ≡ true → list_all p ys ≡ true → list_all p (xs ++ ys) ≡ true
all_joined p xs ys h g = list_all-append p xs ys ∙ and_from (list_all p xs) (list_all p ys) h g

-- where all parts of each pass, all of the parts do
pub all_flat : {X Y : Type 0} (p : Y → Bool) (f : X → List Y) → ((x : X) → list_all p (f x) ≡ true) → (xs : List X) → list_all p (flat_map f xs) ≡ true
all_flat p f e [] = refl
all_flat p f e (x ∷ xs) = all_joined p (f x) (flat_map f xs) (e x) (all_flat p f e xs)
