-- How often the versions of a warning were broadcast: at most 65,535 times each in a cell, and a warning has at most 16
-- versions, so a line adds at most 1,048,560. Lines add it where their cells are registered, each at one BSC at most.
use Rattle.std.proofs.Common.{◌≡◌, ◌≤◌, ◌<◌, ◌+◌, ◌*◌, ◌⊎◌, inl, inr, ℕ, Bool, true, false, ◌&&◌, List, [], ◌∷◌, Some, length, refl, sym, ◌∙◌, ap, subst, arith, ⊎_elim, if◌then◌else◌}
use Rattle.std.proofs.lemmas.Bool.{and_parts}
use Rattle.std.specs.List.{list_all}
use Rattle.common.specs.Order.{each_once}
use Rattle.common.specs.Sums.{count_of, one, sum_of}
use Rattle.coverage_board.specs.Parts.{broadcast_count, has_areas}
use Rattle.coverage_board.specs.SumLaws.{count_at_most}
use Rattle.kept_tables.proofs.SpotLemmas.{parts_below}
use Rattle.kept_tables.specs.Changes.{Change, changes_key, FewVersions, mixed, Placed}
use Rattle.kept_tables.specs.Consistent.{is_in_range}
use Rattle.kept_tables.specs.Facts.{stand_of, total_of_line}
use Rattle.kept_tables.specs.SpotLaws.{spot_decides}
use Rattle.kept_tables.specs.View.{key_at, spot_eq, View}
use Rattle.kept_tables.specs.declared.line_facts.LineFacts.{LineFacts}
use Rattle.kept_tables.specs.declared.spot.Spot.{Spot}
use Rattle.mirror.specs.Line.{state_of}
use Rattle.mirror.specs.declared.line_key.LineKey.{LineKey}

-- a sum of numbers of 16 bits
sum_counts : (f : ℕ → ℕ) → ((s : ℕ) → f s < 65536) → (xs : List ℕ) → sum_of f xs ≤ 65535 * length xs
sum_counts f low [] = omega arith
sum_counts f low (x ∷ xs) = omega (arith, low x, sum_counts f low xs)

-- what a line adds to the broadcasts, where its cell is registered at the BSC and where it isn't
pub broadcasts_few : (f : LineFacts) → ((s : ℕ) → (state_of f.line s).count < 65536) → length f.versions ≤ 16 → (total_of_line f).broadcasts ≤ 1048560 * one f.here
broadcasts_few f low few = step f.here (has_areas f.areas)
  where
    sum : broadcast_count (stand_of f) ≤ 65535 * length f.versions
    sum = sum_counts (λ s. (state_of f.line s).count) low f.versions

    step : (p q : Bool) → (if p && q then broadcast_count (stand_of f) else 0) ≤ 1048560 * one p
    step true true = omega (arith, sum, few)
    step true false = omega arith
    step false q = omega arith

-- the cell is registered at the BSC, by its line of that warning
abbrev pub is_here : View → ℕ → Spot → Bool
is_here v w s = is_in_range s && (v (key_at s w)).here

-- one number for a cell
cell_number : Spot → ℕ
cell_number s = s.cell.lac * 65536 + s.cell.ci

cell_below : (v : View) (w : ℕ) (s : Spot) → is_here v w s ≡ true → cell_number s < 4294967296
unfolding cell_number
cell_below v w s h =
    let fit = and_parts (is_in_range s) (v (key_at s w)).here h in
    let parts = parts_below s.bsc s.cell.lac s.cell.ci fit.0 in
    omega (arith, parts.1.0, parts.1.1)

-- a cell is registered at one BSC
one_place : (v : View) → Placed v → (w : ℕ) (x y : Spot) → is_here v w x ≡ true → is_here v w y ≡ true → cell_number x ≡ cell_number y → x ≡ y
unfolding cell_number
one_place v placed w x y h g e =
    λ i. record { bsc = bscs i; cell = record { lac = lacs i; ci = cis i } }
  where
    first : (is_in_range x ≡ true) × ((v (key_at x w)).here ≡ true)
    first = and_parts (is_in_range x) (v (key_at x w)).here h

    second : (is_in_range y ≡ true) × ((v (key_at y w)).here ≡ true)
    second = and_parts (is_in_range y) (v (key_at y w)).here g

    low : (x.bsc < 65536) × ((x.cell.lac < 65536) × (x.cell.ci < 65536))
    low = parts_below x.bsc x.cell.lac x.cell.ci first.0

    also : (y.bsc < 65536) × ((y.cell.lac < 65536) × (y.cell.ci < 65536))
    also = parts_below y.bsc y.cell.lac y.cell.ci second.0

    lacs : x.cell.lac ≡ y.cell.lac
    lacs = omega (arith, e, low.1.0, low.1.1, also.1.0, also.1.1)

    cis : x.cell.ci ≡ y.cell.ci
    cis = omega (arith, e, low.1.0, low.1.1, also.1.0, also.1.1)

    bscs : x.bsc ≡ y.bsc
    bscs =
        let one_cell : x.cell ≡ y.cell = λ i. record { lac = lacs i; ci = cis i } in
        let both : Some x.bsc ≡ Some y.bsc = sym (placed.is (key_at x w) first.1) ∙ ap placed.place one_cell ∙ placed.is (key_at y w) second.1 in
        cc

-- so lines of a warning whose cells are registered at their BSCs are no more than cells
here_few : (v : View) → Placed v → (w : ℕ) (xs : List Spot) → each_once spot_eq xs ≡ true → count_of (is_here v w) xs ≤ 4294967296
here_few v placed w xs once =
    count_at_most spot_eq spot_decides (is_here v w) cell_number 4294967296 (one_place v placed w) (cell_below v w) xs once

-- a sum over elements each of which adds so much at most, once for each of two tests that it passes
sum_of_two : {A : Type 0} (f : A → ℕ) (r p q : A → Bool) → ((x : A) → r x ≡ true → f x ≤ 1048560 * (one (p x) + one (q x))) → (xs : List A) → list_all r xs ≡ true → sum_of f xs ≤ 1048560 * (count_of p xs + count_of q xs)
sum_of_two f r p q few [] all = omega arith
sum_of_two f r p q few (x ∷ xs) all =
    let parts = and_parts (r x) (list_all r xs) all in
    omega (arith, few x parts.0, sum_of_two f r p q few xs parts.1)

-- each line is read as in one of the two views
pub record IsBetween (v from to : View) : Type 0 where
  pub each : (k : LineKey) → (v k ≡ from k) ⊎ (v k ≡ to k)

pub mixed_between : (from to : View) (changes : List Change) → IsBetween (mixed from to changes) from to
mixed_between from to changes = record { each = λ k. step k (changes_key k changes) }
  where
    step : (k : LineKey) (b : Bool) → ((if b then to k else from k) ≡ from k) ⊎ ((if b then to k else from k) ≡ to k)
    step k true = inr refl
    step k false = inl refl

-- no warning has more than sixteen versions in it either
pub few_between : (v from to : View) → IsBetween v from to → FewVersions from → FewVersions to → FewVersions v
few_between v from to between first second k = ⊎_elim
    (λ (e : v k ≡ from k). subst (λ (f : LineFacts). length f.versions ≤ 16) (sym e) (first k))
    (λ (e : v k ≡ to k). subst (λ (f : LineFacts). length f.versions ≤ 16) (sym e) (second k))
    (between.each k)

-- where a cell is registered at one BSC at most in each of two views, a view between them has so many broadcasts at most
pub broadcasts_fit : (v from to : View) → IsBetween v from to → Placed from → Placed to → (w : ℕ) (p : LineFacts → ℕ) → ((k : LineKey) → p (v k) ≤ 1048560 * one (v k).here) → (xs : List Spot) → list_all is_in_range xs ≡ true → each_once spot_eq xs ≡ true → sum_of (λ s. p (v (key_at s w))) xs ≤ 9007061815787520
broadcasts_fit v from to between first second w p few xs all once =
    omega (arith, sum_of_two (λ s. p (v (key_at s w))) is_in_range (is_here from w) (is_here to w) at_spot xs all, here_few from first w xs once, here_few to second w xs once)
  where
    at_spot : (s : Spot) → is_in_range s ≡ true → p (v (key_at s w)) ≤ 1048560 * (one (is_here from w s) + one (is_here to w s))
    at_spot s fit = ⊎_elim
        (λ (e : v (key_at s w) ≡ from (key_at s w)).
        let is : one (v (key_at s w)).here ≡ one (is_here from w s) = ap (λ (f : LineFacts). one f.here) e ∙ ap (λ b. one (b && (from (key_at s w)).here)) (sym fit) in
        omega (arith, few (key_at s w), is))
        (λ (e : v (key_at s w) ≡ to (key_at s w)).
        let is : one (v (key_at s w)).here ≡ one (is_here to w s) = ap (λ (f : LineFacts). one f.here) e ∙ ap (λ b. one (b && (to (key_at s w)).here)) (sym fit) in
        omega (arith, few (key_at s w), is))
        (between.each (key_at s w))
