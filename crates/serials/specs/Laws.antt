-- What is known of the least free code and of the serial number that is made with it.
use Rattle.std.proofs.Common.{◌≡◌, ℕ, zero, suc, ◌+◌, ◌%◌, ◌<◌, ◌≤◌, Bool, true, false, ◌||◌, not, cond, List, [], ◌∷◌, Option, Some, None, nat_eq, length, refl, sym, ap, ◌∙◌, arith}
use Rattle.std.specs.Prelude.{find}
use Rattle.std.specs.Cmp.{unsigned_Decides}
use Rattle.std.specs.List.{list_any, filter, range_with_len}
use Rattle.std.specs.Option.{is_some}
use Rattle.std.proofs.lemmas.Bool.{not-false, not-true, or_left}
use Rattle.std.proofs.lemmas.Bool.Decides.{nat_tests}
use Rattle.std.proofs.lemmas.Grind.{common_steps}
use Rattle.std.proofs.lemmas.List.Sums.{length-filter, count_by-le-length}
use Rattle.serials.specs.Serials.{serial_of, scope_part, code_of, update_of, next_of, every_code, least_free}

-- the number that a search of a range finds is one of the range and passes the test

found_in_range : (p : ℕ → Bool) (a n k : ℕ) → find p (range_with_len a n) ≡ Some k → (k < a + n) × (p k ≡ true)
found_in_range p a zero k h = cc
found_in_range p a (suc n) k h = step (found_in_range p (a + 1) n k) (p a) refl h
  where
    step : (find p (range_with_len (a + 1) n) ≡ Some k → (k < a + 1 + n) × (p k ≡ true)) → (t : Bool) → p a ≡ t → cond t (Some a) (find p (range_with_len (a + 1) n)) ≡ Some k → (k < a + suc n) × (p k ≡ true)
    step rest true e h = let same : a ≡ k = cc in (omega arith, ap p (sym same) ∙ e)
    step rest false e h = let r = rest h in let bound : k < a + 1 + n = r.0 in (omega arith, r.1)

-- a code that is found is one of 0 to 1,023, and free
pub free_code : (used : List ℕ) (code : ℕ) → least_free used ≡ Some code → (code < 1024) × (list_any (nat_eq code) used ≡ false)
unfolding every_code
free_code used code h =
    let found = found_in_range (λ k. not (list_any (nat_eq k) used)) 0 1024 code h in
    (found.0, not-true (list_any (nat_eq code) used) found.1)

-- where a search of a range finds none, no number of the range passes the test

next_above : (k a : ℕ) → nat_eq k a ≡ false → a ≤ k → a + 1 ≤ k
next_above k a h g = grind (arith, nat_tests, common_steps)

none_in_range : (p : ℕ → Bool) (a n : ℕ) → find p (range_with_len a n) ≡ None → (k : ℕ) → a ≤ k → k < a + n → p k ≡ false
none_in_range p a zero h k g l = absurd (omega arith)
none_in_range p a (suc n) h k g l = step (none_in_range p (a + 1) n) (p a) refl h
  where
    step : (find p (range_with_len (a + 1) n) ≡ None → (j : ℕ) → a + 1 ≤ j → j < a + 1 + n → p j ≡ false) → (t : Bool) → p a ≡ t → cond t (Some a) (find p (range_with_len (a + 1) n)) ≡ None → p k ≡ false
    step rest true e h = cc
    step rest false e h = at (nat_eq k a) refl
      where
        at : (t : Bool) → nat_eq k a ≡ t → p k ≡ false
        at true q = ap p ((unsigned_Decides k a).0 q) ∙ e
        at false q = rest h k (next_above k a q g) (omega arith)

-- a list that has each of so many numbers is as long

length-filter-le : (q : ℕ → Bool) (xs : List ℕ) → length (filter q xs) ≤ length xs
length-filter-le q xs = omega (arith, length-filter q xs, count_by-le-length q xs)

among_others : (n k : ℕ) (xs : List ℕ) → nat_eq n k ≡ false → list_any (nat_eq k) xs ≡ true → list_any (nat_eq k) (filter (λ x. not (nat_eq n x)) xs) ≡ true
among_others n k [] h g = cc
among_others n k (x ∷ xs) h g = step (among_others n k xs h) (nat_eq n x) refl (nat_eq k x) refl g
  where
    step : (list_any (nat_eq k) xs ≡ true → list_any (nat_eq k) (filter (λ y. not (nat_eq n y)) xs) ≡ true) → (t : Bool) → nat_eq n x ≡ t → (u : Bool) → nat_eq k x ≡ u → (u || list_any (nat_eq k) xs) ≡ true → list_any (nat_eq k) (cond (not t) (x ∷ filter (λ y. not (nat_eq n y)) xs) (filter (λ y. not (nat_eq n y)) xs)) ≡ true
    step rest true e true d g =
        absurd (let no : true ≡ false = sym ((unsigned_Decides n k).1 ((unsigned_Decides n x).0 e ∙ sym ((unsigned_Decides k x).0 d))) ∙ h in cc)
    step rest true e false d g = rest g
    step rest false e true d g = or_left (nat_eq k x) (list_any (nat_eq k) (filter (λ y. not (nat_eq n y)) xs)) d
    step rest false e false d g = ap (λ b. b || list_any (nat_eq k) (filter (λ y. not (nat_eq n y)) xs)) d ∙ rest g

fewer_others : (n : ℕ) (xs : List ℕ) → list_any (nat_eq n) xs ≡ true → length (filter (λ x. not (nat_eq n x)) xs) + 1 ≤ length xs
fewer_others n [] h = cc
fewer_others n (x ∷ xs) h = step (fewer_others n xs) (nat_eq n x) h
  where
    step : (list_any (nat_eq n) xs ≡ true → length (filter (λ y. not (nat_eq n y)) xs) + 1 ≤ length xs) → (t : Bool) → (t || list_any (nat_eq n) xs) ≡ true → length (cond (not t) (x ∷ filter (λ y. not (nat_eq n y)) xs) (filter (λ y. not (nat_eq n y)) xs)) + 1 ≤ length (x ∷ xs)
    step rest true e = let fewer = length-filter-le (λ (y : ℕ). not (nat_eq n y)) xs in omega arith
    step rest false e = let fewer : length (filter (λ y. not (nat_eq n y)) xs) + 1 ≤ length xs = rest e in omega arith

below_is_other : (n k : ℕ) → k < n → nat_eq n k ≡ false
below_is_other n k h = grind (arith, nat_tests, common_steps)

as_many : (n : ℕ) (xs : List ℕ) → ((k : ℕ) → k < n → list_any (nat_eq k) xs ≡ true) → n ≤ length xs
as_many zero xs h = omega arith
as_many (suc n) xs h =
    let rest : n ≤ length (filter (λ x. not (nat_eq n x)) xs) = as_many n (filter (λ x. not (nat_eq n x)) xs) (λ k g. among_others n k xs (below_is_other n k g) (h k (omega arith))) in
    let fewer : length (filter (λ x. not (nat_eq n x)) xs) + 1 ≤ length xs = fewer_others n xs (h n (omega arith)) in
    omega arith

-- while fewer than 1,024 codes are used one is free
pub some_free : (used : List ℕ) → length used < 1024 → is_some (least_free used) ≡ true
unfolding every_code
some_free used few = step (least_free used) refl
  where
    step : (o : Option ℕ) → least_free used ≡ o → is_some o ≡ true
    step (Some code) e = refl
    step None e =
        let all : 1024 ≤ length used = as_many 1024 used (λ k g. not-false (list_any (nat_eq k) used) (none_in_range (λ j. not (list_any (nat_eq j) used)) 0 1024 e k (omega arith) g)) in
        absurd (omega arith)

-- the parts of a serial number

pub code_of_serial : (scope code : ℕ) → code < 1024 → code_of (serial_of scope code 0) ≡ code
code_of_serial scope code h = omega arith

pub update_of_serial : (scope code : ℕ) → update_of (serial_of scope code 0) ≡ 0
update_of_serial scope code = omega arith

-- the next serial number has the same scope and code, and the next update number, 0 after 15

pub next_scope : (s : ℕ) → scope_part (next_of s) ≡ scope_part s
next_scope s = omega arith

pub next_code : (s : ℕ) → code_of (next_of s) ≡ code_of s
next_code s = omega arith

pub next_update : (s : ℕ) → update_of (next_of s) ≡ (update_of s + 1) % 16
next_update s = omega arith

-- two serial numbers with one scope and code are one where they have one update number

pub same_serial : (s t : ℕ) → scope_part s ≡ scope_part t → code_of s ≡ code_of t → update_of s ≡ update_of t → s ≡ t
same_serial s t h g e = omega arith
