-- Lists that grow by one element at a time.
use Rattle.std.proofs.Common.{◌≡◌, ℕ, zero, suc, ◌+◌, ◌≤◌, List, [], ◌∷◌, ◌++◌, take, drop, length, slice_get, Some, Result, Ok, Err, OnErr, refl, sym, ◌∙◌, ap, arith, append-nil, append_assoc}
use Rattle.std.specs.List.{flat_map}

-- one element more than those before a place
pub take_one_more : {A : Type 0} (xs : List A) (i : ℕ) (x : A) → slice_get xs i ≡ Some x → take (i + 1) xs ≡ take i xs ++ x ∷ []
take_one_more [] i x h = cc
take_one_more (y ∷ xs) zero x h = let e : y ≡ x = cc in ap (λ z. z ∷ []) e
take_one_more (y ∷ xs) (suc i) x h =
    let e : suc i + 1 ≡ suc (i + 1) = omega arith in rw e (ap (λ zs. y ∷ zs) (take_one_more xs i x h))

-- where what is left from a place on starts with an element, it stands there
pub slice_get-drop : {A : Type 0} (xs : List A) (k : ℕ) (x : A) (more : List A) → drop k xs ≡ x ∷ more → slice_get xs k ≡ Some x
slice_get-drop [] zero x more h = absurd cc
slice_get-drop [] (suc k) x more h = absurd cc
slice_get-drop (y ∷ xs) zero x more h = let e : y ≡ x = cc in ap Some e
slice_get-drop (y ∷ xs) (suc k) x more h = slice_get-drop xs k x more h

pub drop_one_more : {A : Type 0} (xs : List A) (k : ℕ) (x : A) (more : List A) → drop k xs ≡ x ∷ more → drop (k + 1) xs ≡ more
drop_one_more [] zero x more h = absurd cc
drop_one_more [] (suc k) x more h = absurd cc
drop_one_more (y ∷ xs) zero x more h = cc
drop_one_more (y ∷ xs) (suc k) x more h = let e : suc k + 1 ≡ suc (k + 1) = omega arith in rw e (drop_one_more xs k x more h)

-- nothing is left only from the end on
pub length_from_drop : {A : Type 0} (xs : List A) (k : ℕ) → drop k xs ≡ [] → length xs ≤ k
length_from_drop [] k h = omega arith
length_from_drop (y ∷ xs) zero h = absurd cc
length_from_drop (y ∷ xs) (suc k) h = let le = length_from_drop xs k h in omega arith

-- a list that keeps a front keeps the front of it
pub take_shorter : {A : Type 0} (xs a b : List A) → take (length (a ++ b)) xs ≡ a ++ b → take (length a) xs ≡ a
take_shorter xs [] b h = refl
take_shorter [] (x ∷ a) b h = absurd cc
take_shorter (y ∷ xs) (x ∷ a) b h =
    let same : y ≡ x = cc in
    let rest : take (length (a ++ b)) xs ≡ a ++ b = cc in
    λ i. same i ∷ take_shorter xs a b rest i

-- what holds at all events holds at an error
pub on_err : {T E P : Type 0} (r : Result T E) → P → OnErr r P
on_err (Ok x) p = tt
on_err (Err e) p = p

-- one more piece at the end
pub flat_map-snoc : {A B : Type 0} (f : A → List B) (xs : List A) (x : A) → flat_map f (xs ++ x ∷ []) ≡ flat_map f xs ++ f x
flat_map-snoc f [] x = append-nil (f x)
flat_map-snoc f (y ∷ xs) x = ap (λ zs. f y ++ zs) (flat_map-snoc f xs x) ∙ sym (append_assoc (f y) (flat_map f xs) (f x))

pub flat_map_one_more : {A B : Type 0} (f : A → List B) (before : List B) (xs : List A) (x : A) → (before ++ flat_map f xs) ++ f x ≡ before ++ flat_map f (xs ++ x ∷ [])
flat_map_one_more f before xs x = append_assoc before (flat_map f xs) (f x) ∙ ap (λ zs. before ++ zs) (sym (flat_map-snoc f xs x))
