-- In order the cells of a location area stand side by side.
use Rattle.std.proofs.Common.{◌≡◌, ℕ, zero, suc, ◌+◌, ◌-◌, ◌≤◌, Bool, true, false, List, [], ◌∷◌, length, take, drop, get_or, nat_eq, ltb, ltb-true, ltb-false, filter, refl, sym, ◌∙◌, ap, arith}
use Rattle.std.specs.Prelude.{nat_le}
use Rattle.std.proofs.lemmas.Bool.Decides.{nat_tests}
use Rattle.std.proofs.lemmas.Grind.{common_steps}
use Rattle.std.specs.List.Sorted.{IsPartitionPoint, IsPartitionedBy}
use Rattle.common.specs.Order.{is_ascending}
use Rattle.cell_register.specs.Register.{placed_lt}
use Rattle.cell_register.specs.declared.placed.Placed.{Placed}
use Rattle.common.specs.RisingLaws.{parted}

-- the cell is of a location area before this one
abbrev pub is_before : ℕ → Placed → Bool
is_before lac p = ltb p.cell.lac lac

-- the cell is of this location area or of one before it
abbrev pub is_up_to : ℕ → Placed → Bool
is_up_to lac p = nat_le p.cell.lac lac

before_follows : (lac : ℕ) (p q : Placed) → placed_lt p q ≡ true → is_before lac q ≡ true → is_before lac p ≡ true
before_follows lac p q h g = grind (arith, nat_tests, common_steps)

up_to_follows : (lac : ℕ) (p q : Placed) → placed_lt p q ≡ true → is_up_to lac q ≡ true → is_up_to lac p ≡ true
up_to_follows lac p q h g = grind (arith, nat_tests, common_steps)

pub before_parted : (lac : ℕ) (ps : List Placed) → is_ascending placed_lt ps ≡ true → IsPartitionedBy (is_before lac) ps
before_parted lac ps o = parted placed_lt (is_before lac) (before_follows lac) ps o

pub up_to_parted : (lac : ℕ) (ps : List Placed) → is_ascending placed_lt ps ≡ true → IsPartitionedBy (is_up_to lac) ps
up_to_parted lac ps o = parted placed_lt (is_up_to lac) (up_to_follows lac) ps o

-- where the test ends to hold
abbrev pub EndsAt : (Placed → Bool) → List Placed → ℕ → Type 0
EndsAt test ps n = IsPartitionPoint (λ p. test p ≡ true) (λ p. test p ≡ false) ps n

ends_behind : (test : Placed → Bool) (p : Placed) (ps : List Placed) (n : ℕ) → EndsAt test (p ∷ ps) (suc n) → EndsAt test ps n
ends_behind test p ps n ends = (λ k d low high. ends.0 (suc k) d (omega arith) (omega arith), λ k d low high. ends.1 (suc k) d (omega arith) (omega arith))

ends_first : (test : Placed → Bool) (p : Placed) (ps : List Placed) → EndsAt test (p ∷ ps) 0 → EndsAt test ps 0
ends_first test p ps ends = (λ k d low high. absurd (omega arith), λ k d low high. ends.1 (suc k) d (omega arith) (omega arith))

not_between : (lac : ℕ) (p : Placed) → is_before lac p ≡ true → is_up_to lac p ≡ true
not_between lac p h = grind (arith, nat_tests, common_steps)

-- the area does not end before it starts
pub start_before_end : (lac : ℕ) (ps : List Placed) (s e : ℕ) (d : Placed) → s ≤ length ps → EndsAt (is_before lac) ps s → EndsAt (is_up_to lac) ps e → s ≤ e
start_before_end lac ps s e d h start end = step (ltb e s) refl
  where
    step : (t : Bool) → ltb e s ≡ t → s ≤ e
    step true f =
        let less = ltb-true e s f in
        let no : true ≡ false = sym (not_between lac (get_or ps e d) (start.0 e d (omega arith) (omega arith))) ∙ end.1 e d (omega arith) (omega arith) in
        cc
    step false f = ltb-false e s f

other_before : (lac : ℕ) (p : Placed) → is_before lac p ≡ true → nat_eq p.cell.lac lac ≡ false
other_before lac p h = grind (arith, nat_tests, common_steps)

other_after : (lac : ℕ) (p : Placed) → is_up_to lac p ≡ false → nat_eq p.cell.lac lac ≡ false
other_after lac p h = grind (arith, nat_tests, common_steps)

is_in : (lac : ℕ) (p : Placed) → is_before lac p ≡ false → is_up_to lac p ≡ true → nat_eq p.cell.lac lac ≡ true
is_in lac p h g = grind (arith, nat_tests, common_steps)

-- none is left after the end
none_left : (lac : ℕ) (ps : List Placed) → EndsAt (is_up_to lac) ps 0 → [] ≡ filter (λ p. nat_eq p.cell.lac lac) ps
none_left lac [] end = refl
none_left lac (p ∷ ps) end =
    rw (other_after lac p (end.1 0 p (omega arith) (omega arith))) (none_left lac ps (ends_first (is_up_to lac) p ps end))

-- from the start on, as many as there are to the end are the cells of the area
counted : (lac : ℕ) (ps : List Placed) (s e k : ℕ) → e ≡ s + k → e ≤ length ps → EndsAt (is_before lac) ps s → EndsAt (is_up_to lac) ps e → take k (drop s ps) ≡ filter (λ p. nat_eq p.cell.lac lac) ps
counted lac [] zero e zero h g start end = refl
counted lac [] zero e (suc k) h g start end = absurd (omega (arith, h))
counted lac [] (suc s) e k h g start end = absurd (omega (arith, h))
counted lac (p ∷ ps) zero zero zero h g start end = none_left lac (p ∷ ps) end
counted lac (p ∷ ps) zero zero (suc k) h g start end = absurd (omega (arith, h))
counted lac (p ∷ ps) zero (suc e) zero h g start end = absurd (omega (arith, h))
counted lac (p ∷ ps) zero (suc e) (suc k) h g start end =
    rw (is_in lac p (start.1 0 p (omega arith) (omega arith)) (end.0 0 p (omega arith) (omega arith))) (ap (λ qs. p ∷ qs) (counted lac ps 0 e k (omega (arith, h)) (omega arith) (ends_first (is_before lac) p ps start) (ends_behind (is_up_to lac) p ps e end)))
counted lac (p ∷ ps) (suc s) zero k h g start end = absurd (omega (arith, h))
counted lac (p ∷ ps) (suc s) (suc e) k h g start end =
    rw (other_before lac p (start.0 0 p (omega arith) (omega arith))) (counted lac ps s e k (omega (arith, h)) (omega arith) (ends_behind (is_before lac) p ps s start) (ends_behind (is_up_to lac) p ps e end))

-- between the start and the end are the cells of the area
pub between : (lac : ℕ) (ps : List Placed) (s e : ℕ) → s ≤ e → e ≤ length ps → EndsAt (is_before lac) ps s → EndsAt (is_up_to lac) ps e → take (e - s) (drop s ps) ≡ filter (λ p. nat_eq p.cell.lac lac) ps
between lac ps s e h g start end = counted lac ps s e (e - s) (omega arith) g start end
