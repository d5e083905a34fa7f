-- What holds of a sum where what one element adds changes, and how great a sum can be.
use Rattle.std.proofs.Common.{◌≡◌, ℕ, ◌+◌, ◌-◌, ◌*◌, ◌<◌, ◌≤◌, Bool, true, false, ◌||◌, not, List, [], ◌∷◌, length, map, if◌then◌else◌, refl, sym, ◌∙◌, ap, eqb, arith}
use Rattle.std.proofs.lemmas.Bool.{and_parts, or_parts, not-true}
use Rattle.std.proofs.lemmas.Map.Steps.{length-le_from_distinct_below}
use Rattle.std.specs.Cmp.{unsigned_Decides}
use Rattle.std.specs.List.{list_any, filter, flat_map, IsDistinct, AllByRecursion}
use Rattle.common.specs.OnceLaws.{DecidesAll}
use Rattle.common.specs.Order.{each_once}
use Rattle.common.specs.SumLaws.{sum_append}
use Rattle.common.specs.Sums.{one, sum_of, count_of}

-- the two functions are equal but for one element
abbrev pub SameBut : {A B : Type 0} → (A → A → Bool) → A → (A → B) → (A → B) → Type 0
SameBut {A} same c f g = (x : A) → same c x ≡ false → g x ≡ f x

-- where that element isn't in the list, the sums are equal
pub sum_but : {A : Type 0} (same : A → A → Bool) (c : A) (f g : A → ℕ) → SameBut same c f g → (xs : List A) → list_any (same c) xs ≡ false → sum_of g xs ≡ sum_of f xs
sum_but same c f g but [] h = refl
sum_but same c f g but (x ∷ xs) h =
    let parts = or_parts (same c x) (list_any (same c) xs) h in
    rw (but x parts.0, sum_but same c f g but xs parts.1) refl

-- where it is there once, the new sum and what it added are the old sum and what it adds
pub sum_changed : {A : Type 0} (same : A → A → Bool) → DecidesAll same → (c : A) (f g : A → ℕ) → SameBut same c f g → (xs : List A) → each_once same xs ≡ true → list_any (same c) xs ≡ true → sum_of g xs + f c ≡ sum_of f xs + g c
sum_changed same d c f g but [] once h = cc
sum_changed {A} same d c f g but (x ∷ xs) once h = step (sum_changed same d c f g but xs (and_parts (not (list_any (same x) xs)) (each_once same xs) once).1) (same c x) refl h
  where
    step : (list_any (same c) xs ≡ true → sum_of g xs + f c ≡ sum_of f xs + g c) → (t : Bool) → same c x ≡ t → (t || list_any (same c) xs) ≡ true → g x + sum_of g xs + f c ≡ f x + sum_of f xs + g c
    step rest true e k =
        let is : c ≡ x = (d c x).0 e in
        let none : list_any (same c) xs ≡ false = ap (λ y. list_any (same y) xs) is ∙ not-true (list_any (same x) xs) (and_parts (not (list_any (same x) xs)) (each_once same xs) once).0 in
        let others = sum_but same c f g but xs none in
        let old : f c ≡ f x = ap f is in
        let new : g c ≡ g x = ap g is in
        omega arith
    step rest false e k = let here = but x e in omega (arith, rest k)

-- what an element of the list adds is a part of the sum
pub part_there : {A : Type 0} (same : A → A → Bool) → DecidesAll same → (c : A) (f : A → ℕ) (xs : List A) → list_any (same c) xs ≡ true → f c ≤ sum_of f xs
part_there same d c f [] h = cc
part_there {A} same d c f (x ∷ xs) h = step (part_there same d c f xs) (same c x) refl h
  where
    step : (list_any (same c) xs ≡ true → f c ≤ sum_of f xs) → (t : Bool) → same c x ≡ t → (t || list_any (same c) xs) ≡ true → f c ≤ f x + sum_of f xs
    step rest true e k = let is : f c ≡ f x = ap f ((d c x).0 e) in omega arith
    step rest false e k = omega (arith, rest k)

-- the new sum is the old one less what the element added, and what it adds
pub sum_shifted : {A : Type 0} (same : A → A → Bool) → DecidesAll same → (c : A) (f g : A → ℕ) → SameBut same c f g → (xs : List A) → each_once same xs ≡ true → list_any (same c) xs ≡ true → sum_of f xs - f c + g c ≡ sum_of g xs
sum_shifted same d c f g but xs once h =
    omega (arith, sum_changed same d c f g but xs once h, part_there same d c f xs h)

-- the list with the element, which stands in it once then if each did
abbrev pub with_line : {A : Type 0} → (A → A → Bool) → A → List A → List A
with_line same c xs = if list_any (same c) xs then xs else c ∷ xs

-- each element stands once in the list with one more
pub once_with : {A : Type 0} (same : A → A → Bool) (c : A) (xs : List A) → each_once same xs ≡ true → each_once same (with_line same c xs) ≡ true
once_with same c xs once = step (list_any (same c) xs) refl
  where
    step : (t : Bool) → list_any (same c) xs ≡ t → each_once same (if t then xs else c ∷ xs) ≡ true
    step true e = once
    step false e = rw (e, once) refl

-- what isn't in the list with one more isn't in the list, and isn't that one
pub absent_with : {A : Type 0} (same : A → A → Bool) → DecidesAll same → (c : A) (xs : List A) (x : A) → list_any (same x) (with_line same c xs) ≡ false → (list_any (same x) xs ≡ false) × (same x c ≡ false)
absent_with {A} same d c xs x h = step (list_any (same c) xs) refl h
  where
    other : (t : Bool) → same x c ≡ t → list_any (same c) xs ≡ true → list_any (same x) xs ≡ false → t ≡ false
    other true e there none = let no : true ≡ false = sym there ∙ ap (λ y. list_any (same y) xs) (sym ((d x c).0 e)) ∙ none in cc
    other false e there none = refl

    step : (t : Bool) → list_any (same c) xs ≡ t → list_any (same x) (if t then xs else c ∷ xs) ≡ false → (list_any (same x) xs ≡ false) × (same x c ≡ false)
    step true e g = (g, other (same x c) refl e g)
    step false e g = let parts = or_parts (same x c) (list_any (same x) xs) g in (parts.1, parts.0)

-- where what isn't in the list adds nothing, the sums over the list with that element have this relation
pub sum_moved : {A : Type 0} (same : A → A → Bool) → DecidesAll same → (c : A) (f g : A → ℕ) → SameBut same c f g → (xs : List A) → each_once same xs ≡ true → (list_any (same c) xs ≡ false → f c ≡ 0) → sum_of g (with_line same c xs) + f c ≡ sum_of f xs + g c
sum_moved {A} same d c f g but xs once none = step (list_any (same c) xs) refl
  where
    step : (t : Bool) → list_any (same c) xs ≡ t → sum_of g (if t then xs else c ∷ xs) + f c ≡ sum_of f xs + g c
    step true e = sum_changed same d c f g but xs once e
    step false e =
        let nothing = none e in
        let others = sum_but same c f g but xs e in
        omega arith

-- a part is in the sum also where the element isn't in the list
pub part_in_sum : {A : Type 0} (same : A → A → Bool) → DecidesAll same → (c : A) (f : A → ℕ) (xs : List A) → (list_any (same c) xs ≡ false → f c ≡ 0) → f c ≤ sum_of f xs
part_in_sum {A} same d c f xs none = step (list_any (same c) xs) refl
  where
    step : (t : Bool) → list_any (same c) xs ≡ t → f c ≤ sum_of f xs
    step true e = part_there same d c f xs e
    step false e = let nothing = none e in omega arith

-- a sum over pairs is a sum of sums
pub sum_pairs : {A B : Type 0} (f : A → B → ℕ) (xs : List A) (ys : List B) → sum_of (λ (p : A × B). f p.0 p.1) (flat_map (λ x. map (λ y. (x, y)) ys) xs) ≡ sum_of (λ x. sum_of (f x) ys) xs
sum_pairs f [] ys = refl
sum_pairs {A} {B} f (x ∷ xs) ys =
    sum_append (λ (p : A × B). f p.0 p.1) (map (λ y. (x, y)) ys) (flat_map (λ z. map (λ y. (z, y)) ys) xs)
    ∙ ap (λ n. n + sum_of (λ (p : A × B). f p.0 p.1) (flat_map (λ z. map (λ y. (z, y)) ys) xs)) (of_one ys)
    ∙ ap (λ n. sum_of (f x) ys + n) (sum_pairs f xs ys)
  where
    of_one : (zs : List B) → sum_of (λ (p : A × B). f p.0 p.1) (map (λ y. (x, y)) zs) ≡ sum_of (f x) zs
    of_one [] = refl
    of_one (z ∷ zs) = ap (λ n. f x z + n) (of_one zs)

-- how great a sum is whose elements each add k at most, and nothing unless they pass the test
pub sum_at_most : {A : Type 0} (k : ℕ) (f : A → ℕ) (p : A → Bool) → ((x : A) → f x ≤ (if p x then k else 0)) → (xs : List A) → sum_of f xs ≤ k * count_of p xs
sum_at_most k f p h [] = omega arith
sum_at_most {A} k f p h (x ∷ xs) = step (sum_at_most k f p h xs) (p x) (h x)
  where
    step : sum_of f xs ≤ k * count_of p xs → (t : Bool) → f x ≤ (if t then k else 0) → f x + sum_of f xs ≤ k * (one t + count_of p xs)
    step rest true g = grind arith
    step rest false g = grind arith

-- the numbers of the elements that pass a test
abbrev codes : {A : Type 0} → (A → Bool) → (A → ℕ) → List A → List ℕ
codes p code xs = map code (filter p xs)

counted : {A : Type 0} (p : A → Bool) (code : A → ℕ) (xs : List A) → count_of p xs ≡ length (codes p code xs)
counted p code [] = refl
counted p code (x ∷ xs) = step (p x) (counted p code xs)
  where
    step : (t : Bool) → count_of p xs ≡ length (codes p code xs) → one t + count_of p xs ≡ length (map code (if t then x ∷ filter p xs else filter p xs))
    step true e = omega (arith, e)
    step false e = omega (arith, e)

bounded : {A : Type 0} (p : A → Bool) (code : A → ℕ) (n : ℕ) → ((x : A) → p x ≡ true → code x < n) → (xs : List A) (q : ℕ) → list_any (eqb q) (codes p code xs) ≡ true → q < n
bounded p code n below [] q h = cc
bounded p code n below (x ∷ xs) q h = step (bounded p code n below xs q) (p x) refl h
  where
    at : (list_any (eqb q) (codes p code xs) ≡ true → q < n) → p x ≡ true → (u : Bool) → eqb q (code x) ≡ u → (u || list_any (eqb q) (codes p code xs)) ≡ true → q < n
    at rest e true f k = let is : q ≡ code x = (unsigned_Decides q (code x)).0 f in let low = below x e in omega arith
    at rest e false f k = rest k

    step : (list_any (eqb q) (codes p code xs) ≡ true → q < n) → (t : Bool) → p x ≡ t → list_any (eqb q) (map code (if t then x ∷ filter p xs else filter p xs)) ≡ true → q < n
    step rest true e g = at rest e (eqb q (code x)) refl g
    step rest false e g = rest g

apart : {A : Type 0} (same : A → A → Bool) → DecidesAll same → (p : A → Bool) (code : A → ℕ) → ((x y : A) → p x ≡ true → p y ≡ true → code x ≡ code y → x ≡ y) → (x : A) → p x ≡ true → (ys : List A) → list_any (same x) ys ≡ false → AllByRecursion (λ k. eqb (code x) k ≡ false) (codes p code ys)
apart same d p code own x px [] h = tt
apart {A} same d p code own x px (y ∷ ys) h = step (apart same d p code own x px ys parts.1) (p y) refl
  where
    parts : (same x y ≡ false) × (list_any (same x) ys ≡ false)
    parts = or_parts (same x y) (list_any (same x) ys) h

    differs : (u : Bool) → eqb (code x) (code y) ≡ u → p y ≡ true → u ≡ false
    differs true f py =
        let is : x ≡ y = own x y px py ((unsigned_Decides (code x) (code y)).0 f) in
        let no : true ≡ false = sym ((d x y).1 is) ∙ parts.0 in
        cc
    differs false f py = refl

    step : AllByRecursion (λ k. eqb (code x) k ≡ false) (codes p code ys) → (t : Bool) → p y ≡ t → AllByRecursion (λ k. eqb (code x) k ≡ false) (map code (if t then y ∷ filter p ys else filter p ys))
    step rest true e = (differs (eqb (code x) (code y)) refl e, rest)
    step rest false e = rest

distinct : {A : Type 0} (same : A → A → Bool) → DecidesAll same → (p : A → Bool) (code : A → ℕ) → ((x y : A) → p x ≡ true → p y ≡ true → code x ≡ code y → x ≡ y) → (xs : List A) → each_once same xs ≡ true → IsDistinct eqb (codes p code xs)
unfolding IsDistinct
distinct same d p code own [] h = tt
distinct {A} same d p code own (x ∷ xs) h = step (distinct same d p code own xs parts.1) (p x) refl
  where
    parts : (not (list_any (same x) xs) ≡ true) × (each_once same xs ≡ true)
    parts = and_parts (not (list_any (same x) xs)) (each_once same xs) h

    step : IsDistinct eqb (codes p code xs) → (t : Bool) → p x ≡ t → IsDistinct eqb (map code (if t then x ∷ filter p xs else filter p xs))
    step rest true e = (apart same d p code own x e xs (not-true (list_any (same x) xs) parts.0), rest)
    step rest false e = rest

-- the elements that pass a test are no more than n, where each that passes has a number of its own below n
pub count_at_most : {A : Type 0} (same : A → A → Bool) → DecidesAll same → (p : A → Bool) (code : A → ℕ) (n : ℕ) → ((x y : A) → p x ≡ true → p y ≡ true → code x ≡ code y → x ≡ y) → ((x : A) → p x ≡ true → code x < n) → (xs : List A) → each_once same xs ≡ true → count_of p xs ≤ n
count_at_most same d p code n own below xs once =
    rw (counted p code xs) (length-le_from_distinct_below (codes p code xs) n (distinct same d p code own xs once) (bounded p code n below xs))
