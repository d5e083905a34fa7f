-- Cells at BSCs whose numbers fit 16 bits, each once, are 2^48 at most.
use Rattle.std.proofs.Common.{◌≡◌, ◌≤◌, ◌<◌, ◌+◌, ◌*◌, ℕ, Bool, true, false, ◌&&◌, ◌||◌, not, List, [], ◌∷◌, length, map, nat_eq, ltb, refl, arith}
use Rattle.std.proofs.lemmas.Bool.{and_parts, or_parts, not-true, false_from_ne_true}
use Rattle.std.proofs.lemmas.Bool.Decides.{nat_tests}
use Rattle.std.proofs.lemmas.Grind.{common_steps}
use Rattle.std.proofs.lemmas.List.{length-map}
use Rattle.std.proofs.lemmas.Map.Steps.{length-le_from_distinct_below}
use Rattle.std.specs.List.{list_any, list_all, AllByRecursion, IsDistinct}
use Rattle.common.specs.Order.{each_once}
use Rattle.kept_tables.specs.Consistent.{is_in_range}
use Rattle.kept_tables.specs.View.{is_spot, spot_eq}
use Rattle.kept_tables.specs.declared.spot.Spot.{Spot}

-- one number for the three
number_of : Spot → ℕ
number_of s = (s.bsc * 65536 + s.cell.lac) * 65536 + s.cell.ci

-- each of the three fits 16 bits
pub parts_below : (b l c : ℕ) → (ltb b 65536 && (ltb l 65536 && ltb c 65536)) ≡ true → (b < 65536) × ((l < 65536) × (c < 65536))
parts_below b l c h =
    let outer = and_parts (ltb b 65536) (ltb l 65536 && ltb c 65536) h in
    let inner = and_parts (ltb l 65536) (ltb c 65536) outer.1 in
    let low : b < 65536 = grind (arith, nat_tests, common_steps) in
    let middle : l < 65536 = grind (arith, nat_tests, common_steps) in
    let high : c < 65536 = grind (arith, nat_tests, common_steps) in
    (low, (middle, high))

number_below : (s : Spot) → is_in_range s ≡ true → number_of s < 281474976710656
unfolding number_of
number_below s h = let parts = parts_below s.bsc s.cell.lac s.cell.ci h in omega (arith, parts.0, parts.1.0, parts.1.1)

-- other spots have other numbers
numbers_apart : (x y : Spot) → is_in_range x ≡ true → is_in_range y ≡ true → spot_eq x y ≡ false → nat_eq (number_of x) (number_of y) ≡ false
unfolding number_of
numbers_apart x y h g apart =
    false_from_ne_true (nat_eq ((x.bsc * 65536 + x.cell.lac) * 65536 + x.cell.ci) ((y.bsc * 65536 + y.cell.lac) * 65536 + y.cell.ci)) (λ e. no e)
  where
    low : (x.bsc < 65536) × ((x.cell.lac < 65536) × (x.cell.ci < 65536))
    low = parts_below x.bsc x.cell.lac x.cell.ci h

    also : (y.bsc < 65536) × ((y.cell.lac < 65536) × (y.cell.ci < 65536))
    also = parts_below y.bsc y.cell.lac y.cell.ci g

    no : nat_eq ((x.bsc * 65536 + x.cell.lac) * 65536 + x.cell.ci) ((y.bsc * 65536 + y.cell.lac) * 65536 + y.cell.ci) ≡ true → ⊥
    no e =
        let one : (x.bsc * 65536 + x.cell.lac) * 65536 + x.cell.ci ≡ (y.bsc * 65536 + y.cell.lac) * 65536 + y.cell.ci = grind (arith, nat_tests) in
        let bscs : x.bsc ≡ y.bsc = omega (arith, low.0, low.1.0, low.1.1, also.0, also.1.0, also.1.1) in
        let lacs : x.cell.lac ≡ y.cell.lac = omega (arith, low.0, low.1.0, low.1.1, also.0, also.1.0, also.1.1) in
        let cis : x.cell.ci ≡ y.cell.ci = omega (arith, low.0, low.1.0, low.1.1, also.0, also.1.0, also.1.1) in
        let same : spot_eq x y ≡ true = grind (arith, nat_tests, common_steps) in
        cc

apart_from_all : (x : Spot) → is_in_range x ≡ true → (xs : List Spot) → list_all is_in_range xs ≡ true → is_spot x xs ≡ false → AllByRecursion (λ n. nat_eq (number_of x) n ≡ false) (map number_of xs)
apart_from_all x fit [] all h = tt
apart_from_all x fit (y ∷ xs) all h =
    let fits = and_parts (is_in_range y) (list_all is_in_range xs) all in
    let parts = or_parts (spot_eq x y) (is_spot x xs) h in
    (numbers_apart x y fit fits.0 parts.0, apart_from_all x fit xs fits.1 parts.1)

distinct : (xs : List Spot) → list_all is_in_range xs ≡ true → each_once spot_eq xs ≡ true → IsDistinct nat_eq (map number_of xs)
unfolding IsDistinct
distinct [] all once = tt
distinct (x ∷ xs) all once =
    let fits = and_parts (is_in_range x) (list_all is_in_range xs) all in
    let parts = and_parts (not (is_spot x xs)) (each_once spot_eq xs) once in
    (apart_from_all x fits.0 xs fits.1 (not-true (is_spot x xs) parts.0), distinct xs fits.1 parts.1)

all_below : (xs : List Spot) → list_all is_in_range xs ≡ true → (q : ℕ) → list_any (nat_eq q) (map number_of xs) ≡ true → q < 281474976710656
all_below [] all q h = cc
all_below (x ∷ xs) all q h =
    step (all_below xs fits.1 q) (nat_eq q (number_of x)) refl h
  where
    fits : (is_in_range x ≡ true) × (list_all is_in_range xs ≡ true)
    fits = and_parts (is_in_range x) (list_all is_in_range xs) all

    step : (list_any (nat_eq q) (map number_of xs) ≡ true → q < 281474976710656) → (t : Bool) → nat_eq q (number_of x) ≡ t → (t || list_any (nat_eq q) (map number_of xs)) ≡ true → q < 281474976710656
    step more true e g = let is : q ≡ number_of x = grind (arith, nat_tests) in let below = number_below x fits.0 in omega arith
    step more false e g = more g

-- there are 2^48 of them at most
pub spots_few : (xs : List Spot) → list_all is_in_range xs ≡ true → each_once spot_eq xs ≡ true → length xs ≤ 281474976710656
spots_few xs all once =
    let few = length-le_from_distinct_below (map number_of xs) 281474976710656 (distinct xs all once) (all_below xs all) in
    let long : length (map number_of xs) ≡ length xs = length-map xs number_of in
    omega arith
