-- What holds of tests that tell a thing from all others, and of lists in which nothing stands twice.
use Rattle.std.proofs.Common.{◌≡◌, ◌+◌, Bool, true, false, ◌&&◌, ◌||◌, not, List, [], ◌∷◌, ◌++◌, length, filter, map, if◌then◌else◌, refl, sym, ◌∙◌, ap, arith}
use Rattle.std.proofs.lemmas.Bool.{and_parts, and_from, and_right, or_parts, or_from, not-true, not_from_false, false_from_ne_true}
use Rattle.std.proofs.lemmas.List.Folds.{list_any-append}
use Rattle.std.specs.Bool.{Decides}
use Rattle.std.specs.List.{list_any, list_all}
use Rattle.common.specs.Order.{is_ascending, each_once}
use Rattle.common.specs.OrderLaws.{any_without, filter_all, all_from_none}

-- the test is true of equal things and of no others
abbrev pub DecidesAll : {A : Type 0} → (A → A → Bool) → Type 0
DecidesAll {A} same = (x y : A) → Decides (same x y) (x ≡ y)

-- it is the same both ways
pub turned : {A : Type 0} (same : A → A → Bool) → DecidesAll same → (x y : A) → same x y ≡ same y x
turned same d x y = step (same x y) refl (same y x) refl
  where
    step : (t : Bool) → same x y ≡ t → (u : Bool) → same y x ≡ u → t ≡ u
    step true e true f = refl
    step true e false f = let there : same y x ≡ true = (d y x).1 (sym ((d x y).0 e)) in cc
    step false e true f = let there : same x y ≡ true = (d x y).1 (sym ((d y x).0 f)) in cc
    step false e false f = refl

-- it does not matter which of the two stands first in the test
pub any_turned : {A : Type 0} (same : A → A → Bool) → DecidesAll same → (z : A) (xs : List A) → list_any (same z) xs ≡ list_any (λ x. same x z) xs
any_turned same d z [] = refl
any_turned same d z (x ∷ xs) = ap (λ t. t || list_any (same z) xs) (turned same d z x) ∙ ap (λ t. same x z || t) (any_turned same d z xs)

-- what is the same as a thing is the same as what that thing is
pub along : {A : Type 0} (same : A → A → Bool) → DecidesAll same → (a x y : A) → same y a ≡ true → same y x ≡ same a x
along same d a x y e = ap (λ k. same k x) ((d y a).0 e)

-- and what is the same as another is not the same as the thing
pub differs : {A : Type 0} (same : A → A → Bool) → DecidesAll same → (a x y : A) → same y a ≡ false → same y x ≡ true → same a x ≡ false
differs same d a x y e f = turned same d a x ∙ ap (λ k. same k a) (sym ((d y x).0 f)) ∙ e

-- what is not the same as a thing is not the same as what that thing is
pub apart_along : {A : Type 0} (same : A → A → Bool) → DecidesAll same → (n a x : A) → same n a ≡ false → same a x ≡ true → same n x ≡ false
apart_along same d n a x e h = ap (same n) (sym ((d a x).0 h)) ∙ e

-- what has the key x is there still without what has the key a, where that is another key
pub any_without_key : {A K : Type 0} (same : K → K → Bool) → DecidesAll same → (key : A → K) (a x : K) (ys : List A) → list_any (λ y. same (key y) x) (filter (λ y. not (same (key y) a)) ys) ≡ (not (same a x) && list_any (λ y. same (key y) x) ys)
any_without_key same d key a x ys =
    any_without (λ y. same (key y) x) (λ y. same (key y) a) (same a x) (λ y e. along same d a x (key y) e) (λ y e f. differs same d a x (key y) e f) ys

-- in ascending order nothing stands twice
pub ascending_once : {A : Type 0} (same before : A → A → Bool) → ((x y : A) → before x y ≡ true → same x y ≡ false) → (xs : List A) → is_ascending before xs ≡ true → each_once same xs ≡ true
ascending_once same before apart [] h = refl
ascending_once {A} same before apart (x ∷ xs) h =
    let order = and_parts (list_all (before x) xs) (is_ascending before xs) h in
    and_from (not (list_any (same x) xs)) (each_once same xs) (not_from_false (list_any (same x) xs) (absent xs order.0)) (ascending_once same before apart xs order.1)
  where
    absent : (ys : List A) → list_all (before x) ys ≡ true → list_any (same x) ys ≡ false
    absent [] g = refl
    absent (y ∷ ys) g =
        let here = and_parts (before x y) (list_all (before x) ys) g in
        or_from (same x y) (list_any (same x) ys) (apart x y here.0) (absent ys here.1)

-- one more stands last
pub once_last : {A : Type 0} (same : A → A → Bool) (x : A) (xs : List A) → list_any (λ y. same y x) xs ≡ false → each_once same xs ≡ true → each_once same (xs ++ x ∷ []) ≡ true
once_last same x [] h o = refl
once_last same x (y ∷ xs) h o =
    let other = or_parts (same y x) (list_any (λ z. same z x) xs) h in
    let parts = and_parts (not (list_any (same y) xs)) (each_once same xs) o in
    let none : list_any (same y) (xs ++ x ∷ []) ≡ false = list_any-append (same y) xs (x ∷ []) ∙ or_from (list_any (same y) xs) (same y x || false) (not-true (list_any (same y) xs) parts.0) (or_from (same y x) false other.0 refl) in
    and_from (not (list_any (same y) (xs ++ x ∷ []))) (each_once same (xs ++ x ∷ [])) (not_from_false (list_any (same y) (xs ++ x ∷ [])) none) (once_last same x xs other.1 parts.1)

-- a part has what passes no more than the whole
pub none_filter : {A : Type 0} (p q : A → Bool) (xs : List A) → list_any p xs ≡ false → list_any p (filter q xs) ≡ false
none_filter p q [] h = refl
none_filter {A} p q (x ∷ xs) h = step (none_filter p q xs) (q x) (or_parts (p x) (list_any p xs) h)
  where
    step : (list_any p xs ≡ false → list_any p (filter q xs) ≡ false) → (t : Bool) → (p x ≡ false) × (list_any p xs ≡ false) → list_any p (if t then x ∷ filter q xs else filter q xs) ≡ false
    step rest true parts = or_from (p x) (list_any p (filter q xs)) parts.0 (rest parts.1)
    step rest false parts = rest parts.1

-- in a part of a list nothing stands twice where nothing does in the list
pub once_filter : {A : Type 0} (same : A → A → Bool) (q : A → Bool) (xs : List A) → each_once same xs ≡ true → each_once same (filter q xs) ≡ true
once_filter same q [] o = refl
once_filter {A} same q (x ∷ xs) o = step (once_filter same q xs) (q x) (and_parts (not (list_any (same x) xs)) (each_once same xs) o)
  where
    step : (each_once same xs ≡ true → each_once same (filter q xs) ≡ true) → (t : Bool) → (not (list_any (same x) xs) ≡ true) × (each_once same xs ≡ true) → each_once same (if t then x ∷ filter q xs else filter q xs) ≡ true
    step rest true parts =
        and_from (not (list_any (same x) (filter q xs))) (each_once same (filter q xs)) (not_from_false (list_any (same x) (filter q xs)) (none_filter (same x) q xs (not-true (list_any (same x) xs) parts.0))) (rest parts.1)
    step rest false parts = rest parts.1

-- keys stand once where nothing stands twice by its key
pub once_key : {A K : Type 0} (same : K → K → Bool) (key : A → K) (xs : List A) → each_once same (map key xs) ≡ each_once (λ x y. same (key x) (key y)) xs
once_key same key [] = refl
once_key {A} same key (x ∷ xs) =
    ap (λ t. not t && each_once same (map key xs)) (any_key xs) ∙ ap (λ t. not (list_any (λ y. same (key x) (key y)) xs) && t) (once_key same key xs)
  where
    any_key : (ys : List A) → list_any (same (key x)) (map key ys) ≡ list_any (λ y. same (key x) (key y)) ys
    any_key [] = refl
    any_key (y ∷ ys) = ap (λ t. same (key x) (key y) || t) (any_key ys)

-- a filter that keeps all but those of a test, of which there are none
pub kept_whole : {A : Type 0} (test : A → Bool) (xs : List A) → list_any test xs ≡ false → filter (λ x. not (test x)) xs ≡ xs
kept_whole test xs h = filter_all (λ x. not (test x)) xs (all_from_none test (λ x. not (test x)) (λ x e. not_from_false (test x) e) xs h)

-- where all that pass are the same, no more than one is left out
pub length_without_once : {A : Type 0} (same : A → A → Bool) (test : A → Bool) → ((x y : A) → test x ≡ true → test y ≡ true → same x y ≡ true) → (xs : List A) → each_once same xs ≡ true → list_any test xs ≡ true → length xs ≡ length (filter (λ x. not (test x)) xs) + 1
length_without_once same test one [] o h = absurd (let e : false ≡ true = h in cc)
length_without_once {A} same test one (x ∷ xs) o h = step (test x) refl (length_without_once same test one xs parts.1) h
  where
    parts : (not (list_any (same x) xs) ≡ true) × (each_once same xs ≡ true)
    parts = and_parts (not (list_any (same x) xs)) (each_once same xs) o

    none : test x ≡ true → (ys : List A) → list_any (same x) ys ≡ false → list_any test ys ≡ false
    none e [] g = refl
    none e (y ∷ ys) g =
        let here = or_parts (same x y) (list_any (same x) ys) g in
        or_from (test y) (list_any test ys) (false_from_ne_true (test y) (λ f. let no : true ≡ false = sym (one x y e f) ∙ here.0 in cc)) (none e ys here.1)

    step : (t : Bool) → test x ≡ t → (list_any test xs ≡ true → length xs ≡ length (filter (λ y. not (test y)) xs) + 1) → (t || list_any test xs) ≡ true → length (x ∷ xs) ≡ length (if not t then x ∷ filter (λ y. not (test y)) xs else filter (λ y. not (test y)) xs) + 1
    step true e rest there =
        omega (arith, ap length (kept_whole test xs (none e xs (not-true (list_any (same x) xs) parts.0))))
    step false e rest there = omega (arith, rest there)

-- the same of one thing
pub length_without_same : {A : Type 0} (same : A → A → Bool) → DecidesAll same → (x : A) (xs : List A) → each_once same xs ≡ true → list_any (λ y. same y x) xs ≡ true → length xs ≡ length (filter (λ y. not (same y x)) xs) + 1
length_without_same same d x xs o h =
    length_without_once same (λ y. same y x) (λ y z e f. (d y z).1 ((d y x).0 e ∙ sym ((d z x).0 f))) xs o h

-- a filter by the thing alone: one is kept where it is there and passes
pub any_filter_same : {A : Type 0} (same : A → A → Bool) → DecidesAll same → (p : A → Bool) (a : A) (xs : List A) → list_any (λ x. same x a) (filter p xs) ≡ (p a && list_any (λ x. same x a) xs)
any_filter_same same d p a [] = sym (and_right (p a) false refl)
any_filter_same {A} same d p a (x ∷ xs) = step (any_filter_same same d p a xs) (p x) refl
  where
    passes : (t q r : Bool) → (q ≡ true → t ≡ true) → (q || (t && r)) ≡ (t && (q || r))
    passes true q r f = refl
    passes false true r f = sym (f refl)
    passes false false r f = refl

    fails : (t q r : Bool) → (q ≡ true → t ≡ false) → (t && r) ≡ (t && (q || r))
    fails false q r f = refl
    fails true true r f = absurd (let no : true ≡ false = f refl in cc)
    fails true false r f = refl

    step : list_any (λ y. same y a) (filter p xs) ≡ (p a && list_any (λ y. same y a) xs) → (t : Bool) → p x ≡ t → list_any (λ y. same y a) (if t then x ∷ filter p xs else filter p xs) ≡ (p a && (same x a || list_any (λ y. same y a) xs))
    step rest true e = ap (λ t. same x a || t) rest ∙ passes (p a) (same x a) (list_any (λ y. same y a) xs) (λ h. ap p (sym ((d x a).0 h)) ∙ e)
    step rest false e = rest ∙ fails (p a) (same x a) (list_any (λ y. same y a) xs) (λ h. ap p (sym ((d x a).0 h)) ∙ e)
