-- What holds of the whole table.
use Rattle.std.proofs.Common.{◌≡◌, ◌≢◌, ◌∙◌, ℕ, ◌-◌, ◌<◌, ◌≤◌, Bool, true, false, cond, not, ◌&&◌, eqb, List, [], ◌∷◌, length, get_or, Option, Some, None, bytes_eq, arith, ap, subst, refl, sym}
use Rattle.std.proofs.lemmas.Bool.{eqb-true}
use Rattle.std.proofs.lemmas.Bool.Decides.{Decides-eqb, nat_tests, not_from_Decides}
use Rattle.std.proofs.lemmas.List.FromFn.{get_or-range_with_len, length-range_with_len}
use Rattle.std.proofs.lemmas.List.Kept.{AllPairs-cons}
use Rattle.std.proofs.lemmas.List.Sums.{AllPass-from_list_all}
use Rattle.std.proofs.lemmas.Slice.Eq.{bytes_eq-Decides}
use Rattle.std.specs.List.{AllPairs, list_all, range_with_len}
use Rattle.std.specs.Prelude.{Contains, find, map, nat_le, nat_lt, option_map}
use Rattle.message_identifiers.specs.Lookups.{name_of, number_of}
use Rattle.message_identifiers.specs.Nearness.{closest, distance, near_numbers, text_numbers}
use Rattle.message_identifiers.specs.Table.{Row, table}

and_parts : (a b : Bool) → (a && b) ≡ true → (a ≡ true) × (b ≡ true)
and_parts true b h = (refl, h)
and_parts false b h = cc

not_true : (b : Bool) → not b ≡ true → b ≡ false
not_true true h = cc
not_true false h = refl

-- no element is the same as a later one
abbrev all_apart : {X : Type 0} → (X → X → Bool) → List X → Bool
all_apart same [] = true
all_apart same (x ∷ xs) = list_all (λ y. not (same x y)) xs && all_apart same xs

pairs : {X : Type 0} (same : X → X → Bool) (R : X → X → Type 0) → ((x y : X) → same x y ≡ false → R x y) → (xs : List X) → all_apart same xs ≡ true → AllPairs R xs
pairs same R sound [] h = λ i j d before within. absurd (let none : ⊥ = omega arith in none)
pairs same R sound (x ∷ xs) h =
    let parts = and_parts (list_all (λ y. not (same x y)) xs) (all_apart same xs) h in
    let others = AllPass-from_list_all (λ y. not (same x y)) xs parts.0 in
    AllPairs-cons R x xs (λ k d within. sound x (get_or xs k d) (not_true (same x (get_or xs k d)) (others k d within))) (pairs same R sound xs parts.1)

numbers_apart : all_apart eqb (map (λ (r : Row). r.number) table) ≡ true
unfolding table
numbers_apart = refl

names_apart : all_apart bytes_eq (map (λ (r : Row). r.name) table) ≡ true
unfolding table
names_apart = refl

pub distinct_numbers : AllPairs (λ (a b : ℕ). a ≢ b) (map (λ (r : Row). r.number) table)
distinct_numbers = pairs eqb (λ a b. a ≢ b) (λ x y h. not_from_Decides (eqb x y) (Decides-eqb x y) h) (map (λ (r : Row). r.number) table) numbers_apart

pub distinct_names : AllPairs (λ (a b : List ℕ). a ≢ b) (map (λ (r : Row). r.name) table)
distinct_names = pairs bytes_eq (λ a b. a ≢ b) (λ x y h. not_from_Decides (bytes_eq x y) (bytes_eq-Decides x y) h) (map (λ (r : Row). r.name) table) names_apart

found_step : {X : Type 0} (p q : X → Bool) (y x : X) (ys : List X) (b : Bool) → p y ≡ b → q y ≡ true
    → (find p ys ≡ Some x → (p x ≡ true) × (q x ≡ true)) → cond b (Some y) (find p ys) ≡ Some x → (p x ≡ true) × (q x ≡ true)
found_step p q y x ys true h k rest e = let f : y ≡ x = cc in (ap p (sym f) ∙ h, ap q (sym f) ∙ k)
found_step p q y x ys false h k rest e = rest e

-- what is found passes the test, and any test that each element passes
found : {X : Type 0} (p q : X → Bool) (xs : List X) (x : X) → list_all q xs ≡ true → find p xs ≡ Some x → (p x ≡ true) × (q x ≡ true)
found p q [] x all e = cc
found p q (y ∷ ys) x all e =
    let parts = and_parts (q y) (list_all q ys) all in
    found_step p q y x ys (p y) refl parts.0 (found p q ys x parts.1) e

-- there is a number, and it is this one
abbrev is_number : Option ℕ → ℕ → Bool
is_number None n = false
is_number (Some k) n = eqb k n

number_is : (o : Option ℕ) (n : ℕ) → is_number o n ≡ true → o ≡ Some n
number_is None n h = cc
number_is (Some k) n h = ap Some (eqb-true k n h)

-- the name of the row stands for its number
abbrev reads_back : Row → Bool
reads_back r = is_number (number_of r.name) r.number

rows_read_back : list_all reads_back table ≡ true
unfolding table
rows_read_back = refl

name_by : (n : ℕ) (name : List ℕ) (o : Option Row) → find (λ (r : Row). eqb r.number n) table ≡ o → option_map (λ (r : Row). r.name) o ≡ Some name → number_of name ≡ Some n
name_by n name None e h = cc
name_by n name (Some r) e h =
    let facts = found (λ (s : Row). eqb s.number n) reads_back table r rows_read_back e in
    let same : r.number ≡ n = eqb-true r.number n facts.0 in
    let called : r.name ≡ name = cc in
    let reads : number_of r.name ≡ Some r.number = number_is (number_of r.name) r.number facts.1 in
    ap number_of (sym called) ∙ reads ∙ ap Some same

pub name_reads_back : (n : ℕ) (name : List ℕ) → name_of n ≡ Some name → number_of name ≡ Some n
name_reads_back n name h = name_by n name (find (λ (r : Row). eqb r.number n) table) refl h

-- the text identifiers are 4370 to 4399
abbrev is_within : ℕ → Bool
is_within k = nat_le 4370 k && nat_le k 4399

texts_within : list_all is_within text_numbers ≡ true
unfolding table
texts_within = refl

within_bounds : (k : ℕ) → is_within k ≡ true → (4370 ≤ k) × (k ≤ 4399)
within_bounds k h =
    let parts = and_parts (nat_le 4370 k) (nat_le k 4399) h in
    let low : nat_le 4370 k ≡ true = parts.0 in
    let high : nat_le k 4399 ≡ true = parts.1 in
    (grind (arith, nat_tests), grind (arith, nat_tests))

text_bounds : (k : ℕ) → Contains text_numbers k → (4370 ≤ k) × (k ≤ 4399)
text_bounds k (i, below, is) =
    let inside = AllPass-from_list_all is_within text_numbers texts_within i k below in
    within_bounds k (ap is_within (sym is) ∙ inside)

abbrev has_some : List ℕ → Bool
has_some [] = false
has_some (x ∷ xs) = true

-- each of them is near itself
each_is_near : list_all (λ n. has_some (near_numbers n)) (range_with_len 4370 30) ≡ true
unfolding table
each_is_near = refl

none_near : (n : ℕ) → near_numbers n ≡ [] → 4370 ≤ n → n ≤ 4399 → ⊥
none_near n none low high =
    let below : n - 4370 < 30 = omega arith in
    let within : n - 4370 < length (range_with_len 4370 30) = subst (λ (l : ℕ). n - 4370 < l) (sym (length-range_with_len 4370 30)) below in
    let there = AllPass-from_list_all (λ m. has_some (near_numbers m)) (range_with_len 4370 30) each_is_near (n - 4370) 0 within in
    let is : get_or (range_with_len 4370 30) (n - 4370) 0 ≡ n = get_or-range_with_len 4370 30 (n - 4370) 0 below ∙ (omega arith) in
    let found : has_some (near_numbers n) ≡ true = ap (λ m. has_some (near_numbers m)) (sym is) ∙ there in
    let no : false ≡ true = ap has_some (sym none) ∙ found in
    cc

beyond_by : (n : ℕ) → (n ≤ 4399 → ⊥) → 4399 < n
beyond_by n out = grind arith

closer_by : (b : Bool) (n k : ℕ) → nat_lt n 4370 ≡ b → (4370 ≤ n → n ≤ 4399 → ⊥) → 4370 ≤ k → k ≤ 4399 → distance n (cond b 4370 4399) ≤ distance n k
closer_by true n k e out low high = let below : n < 4370 = grind (arith, nat_tests) in omega arith
closer_by false n k e out low high =
    let above : 4370 ≤ n = grind (arith, nat_tests) in
    let beyond : 4399 < n = beyond_by n (out above) in
    omega arith

pub none_closer : (n k : ℕ) → near_numbers n ≡ [] → Contains text_numbers k → distance n (closest n) ≤ distance n k
none_closer n k none there =
    let bounds = text_bounds k there in
    closer_by (nat_lt n 4370) n k refl (none_near n none) bounds.0 bounds.1
