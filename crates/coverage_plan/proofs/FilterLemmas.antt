-- When the names that pass one test and those that pass another are the same list.
use Rattle.std.proofs.Common.{◌≡◌, ℕ, ◌+◌, ◌≤◌, Bool, true, false, ◌&&◌, ◌||◌, not, List, [], ◌∷◌, ◌++◌, filter, length, if◌then◌else◌, refl, ◌∙◌, ap, arith}
use Rattle.std.proofs.lemmas.Bool.{and_right, or_parts, false_from_ne_true}
use Rattle.std.proofs.lemmas.Slice.Eq.{bytes_eq-Decides}
use Rattle.std.specs.Cmp.Lexicographic.{pointwise, pointwise_decides}
use Rattle.std.specs.List.{list_any}
use Rattle.std.specs.Prelude.{bytes_eq}
use Rattle.common.specs.OnceLaws.{DecidesAll, turned}
use Rattle.coverage_plan.specs.Changes.{names_differ}

lists_decide : DecidesAll (pointwise bytes_eq)
lists_decide = pointwise_decides bytes_eq-Decides

-- lists of names

pub names_same : (xs : List (List ℕ)) → names_differ xs xs ≡ false
names_same xs = ap not ((lists_decide xs xs).1 refl)

pub names_turned : (xs ys : List (List ℕ)) → names_differ xs ys ≡ names_differ ys xs
names_turned xs ys = ap not (turned (pointwise bytes_eq) lists_decide xs ys)

-- the list is not empty
abbrev pub is_full : {A : Type 0} → List A → Bool
is_full [] = false
is_full (x ∷ xs) = true

pub differ_from_none : (xs : List (List ℕ)) → names_differ xs [] ≡ is_full xs
differ_from_none [] = refl
differ_from_none (x ∷ xs) = refl

first_same : (x : List ℕ) (xs ys : List (List ℕ)) → names_differ (x ∷ xs) (x ∷ ys) ≡ names_differ xs ys
first_same x xs ys = ap (λ t. not (t && pointwise bytes_eq xs ys)) ((bytes_eq-Decides x x).1 refl)

-- a list with more behind it
pub differ_from_longer : (xs ys : List (List ℕ)) → names_differ xs (xs ++ ys) ≡ is_full ys
differ_from_longer [] [] = refl
differ_from_longer [] (y ∷ ys) = refl
differ_from_longer (x ∷ xs) ys = first_same x xs (xs ++ ys) ∙ differ_from_longer xs ys

-- filters

-- some pass just where the list of those that pass is not empty
pub any_full : {A : Type 0} (p : A → Bool) (xs : List A) → list_any p xs ≡ is_full (filter p xs)
any_full p [] = refl
any_full {A} p (x ∷ xs) = step (p x) (any_full p xs)
  where
    step : (t : Bool) → list_any p xs ≡ is_full (filter p xs) → (t || list_any p xs) ≡ is_full (if t then x ∷ filter p xs else filter p xs)
    step true rest = refl
    step false rest = rest

pub none_pass : {A : Type 0} (p : A → Bool) (xs : List A) → list_any p xs ≡ false → filter p xs ≡ []
none_pass p [] h = refl
none_pass p (x ∷ xs) h =
    let parts = or_parts (p x) (list_any p xs) h in
    ap (λ t. if t then x ∷ filter p xs else filter p xs) parts.0 ∙ none_pass p xs parts.1

-- two tests that agree but where a third holds, which holds of none
pub agree_besides : {A : Type 0} (test p q : A → Bool) → ((x : A) → test x ≡ false → p x ≡ q x) → (xs : List A) → list_any test xs ≡ false → filter p xs ≡ filter q xs
agree_besides test p q f [] h = refl
agree_besides test p q f (x ∷ xs) h =
    let parts = or_parts (test x) (list_any test xs) h in
    ap (λ t. if t then x ∷ filter p xs else filter p xs) (f x parts.0) ∙ ap (λ ys. if q x then x ∷ ys else ys) (agree_besides test p q f xs parts.1)

pub filter_agree : {A : Type 0} (p q : A → Bool) → ((x : A) → p x ≡ q x) → (xs : List A) → filter p xs ≡ filter q xs
filter_agree p q f [] = refl
filter_agree p q f (x ∷ xs) =
    ap (λ t. if t then x ∷ filter p xs else filter p xs) (f x) ∙ ap (λ ys. if q x then x ∷ ys else ys) (filter_agree p q f xs)

-- one filter after another
pub filter_both : {A : Type 0} (p q : A → Bool) (xs : List A) → filter p (filter q xs) ≡ filter (λ x. q x && p x) xs
filter_both p q [] = refl
filter_both {A} p q (x ∷ xs) = step (q x) (filter_both p q xs)
  where
    step : (t : Bool) → filter p (filter q xs) ≡ filter (λ y. q y && p y) xs → filter p (if t then x ∷ filter q xs else filter q xs) ≡ (if t && p x then x ∷ filter (λ y. q y && p y) xs else filter (λ y. q y && p y) xs)
    step true rest = ap (λ ys. if p x then x ∷ ys else ys) rest
    step false rest = rest

pub any_same : {A : Type 0} (p q : A → Bool) → ((x : A) → p x ≡ q x) → (xs : List A) → list_any p xs ≡ list_any q xs
any_same p q f [] = refl
any_same p q f (x ∷ xs) = ap (λ t. t || list_any p xs) (f x) ∙ ap (λ t. q x || t) (any_same p q f xs)

-- a test and a fact that doesn't depend on the thing
pub any_and : {A : Type 0} (p : A → Bool) (t : Bool) (xs : List A) → list_any (λ x. p x && t) xs ≡ (list_any p xs && t)
any_and p t [] = refl
any_and p t (x ∷ xs) = ap (λ u. (p x && t) || u) (any_and p t xs) ∙ step (p x) t (list_any p xs)
  where
    step : (a b e : Bool) → ((a && b) || (e && b)) ≡ ((a || e) && b)
    step true true e = refl
    step true false e = and_right e false refl
    step false b e = refl

fewer : {A : Type 0} (p q : A → Bool) → ((x : A) → p x ≡ true → q x ≡ true) → (xs : List A) → length (filter p xs) ≤ length (filter q xs)
fewer p q f [] = omega arith
fewer {A} p q f (x ∷ xs) = step (p x) (q x) (f x) (fewer p q f xs)
  where
    step : (t u : Bool) → (t ≡ true → u ≡ true) → length (filter p xs) ≤ length (filter q xs) → length (if t then x ∷ filter p xs else filter p xs) ≤ length (if u then x ∷ filter q xs else filter q xs)
    step true true g rest = omega arith
    step true false g rest = absurd (let no_more : false ≡ true = g refl in cc)
    step false true g rest = omega arith
    step false false g rest = rest

longer_differs : (x : List ℕ) (xs ys : List (List ℕ)) → length xs ≤ length ys → names_differ xs (x ∷ ys) ≡ true
longer_differs x xs ys h = ap not (false_from_ne_true (pointwise bytes_eq xs (x ∷ ys)) (λ e. let same : length xs ≡ length ys + 1 = ap length ((lists_decide xs (x ∷ ys)).0 e) ∙ omega arith in omega arith))

-- where all that pass the first test pass the second, the lists differ where one passes the second alone
pub filters_differ : (p q : List ℕ → Bool) → ((x : List ℕ) → p x ≡ true → q x ≡ true) → (xs : List (List ℕ)) → names_differ (filter p xs) (filter q xs) ≡ list_any (λ x. q x && not (p x)) xs
filters_differ p q f [] = refl
filters_differ p q f (x ∷ xs) = step (p x) (q x) (f x) (filters_differ p q f xs)
  where
    step : (t u : Bool) → (t ≡ true → u ≡ true) → names_differ (filter p xs) (filter q xs) ≡ list_any (λ y. q y && not (p y)) xs → names_differ (if t then x ∷ filter p xs else filter p xs) (if u then x ∷ filter q xs else filter q xs) ≡ ((u && not t) || list_any (λ y. q y && not (p y)) xs)
    step true true g rest = first_same x (filter p xs) (filter q xs) ∙ rest
    step true false g rest = let no_more : false ≡ true = g refl in cc
    step false true g rest = longer_differs x (filter p xs) (filter q xs) (fewer p q f xs)
    step false false g rest = rest
