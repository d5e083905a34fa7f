-- Each warning in the book is the one that is found by its number.
use Rattle.std.proofs.Common.{◌≡◌, ◌<◌, arith, ℕ, zero, suc, Bool, true, false, ◌||◌, List, [], ◌∷◌, Option, Some, None, nat_eq, ltb, cond, get_or, length, refl, sym, ◌∙◌, ap, eq-eqb}
use Rattle.std.specs.Prelude.{find}
use Rattle.std.specs.List.{list_any, list_all}
use Rattle.std.proofs.lemmas.Bool.{and_parts}
use Rattle.std.proofs.lemmas.Bool.Decides.{nat_tests}
use Rattle.std.proofs.lemmas.Grind.{common_steps}
use Rattle.common.specs.Order.{is_ascending}
use Rattle.warning_book.specs.Book.{has_number, number_lt, numbers}
use Rattle.warning_book.specs.declared.warning.Warning.{Warning}

abbrev pub EachFound : List Warning → List Warning → Type 0
EachFound all [] = Unit {0}
EachFound all (w ∷ ws) = (find (has_number w.number) all ≡ Some w) × EachFound all ws

below_other : (k n : ℕ) → ltb k n ≡ true → nat_eq k n ≡ false
below_other k n h = grind (arith, nat_tests, common_steps)

found_behind : (v : Warning) (all ws : List Warning) → list_all (number_lt v) ws ≡ true → EachFound all ws → EachFound (v ∷ all) ws
found_behind v all [] h found = tt
found_behind v all (w ∷ ws) h found =
    let parts = and_parts (number_lt v w) (list_all (number_lt v) ws) h in
    (ap (λ t. cond t (Some v) (find (has_number w.number) all)) (below_other v.number w.number parts.0) ∙ found.0, found_behind v all ws parts.1 found.1)

pub each_found : (ws : List Warning) → is_ascending number_lt ws ≡ true → EachFound ws ws
each_found [] ordered = tt
each_found (w ∷ ws) ordered =
    let parts = and_parts (list_all (number_lt w) ws) (is_ascending number_lt ws) ordered in
    (ap (λ t. cond t (Some w) (find (has_number w.number) ws)) (eq-eqb w.number w.number refl), found_behind w ws ws parts.0 (each_found ws parts.1))

-- what is found passes
abbrev pub passes : (Warning → Bool) → Option Warning → Bool
passes p None = false
passes p (Some w) = p w

-- one of them passes where one that is found by its number does
pub any_by_number : (p : Warning → Bool) (all ws : List Warning) → EachFound all ws → list_any p ws ≡ list_any (λ n. passes p (find (has_number n) all)) (numbers ws)
any_by_number p all [] found = refl
any_by_number p all (w ∷ ws) found =
    ap (λ t. t || list_any p ws) (sym (ap (passes p) found.0)) ∙ ap (λ t. passes p (find (has_number w.number) all) || t) (any_by_number p all ws found.1)

-- the one at each place is found
found_at : (all ws : List Warning) → EachFound all ws → (i : ℕ) (d : Warning) → i < length ws → find (has_number (get_or ws i d).number) all ≡ Some (get_or ws i d)
found_at all [] found i d h = absurd (omega (arith, h))
found_at all (w ∷ ws) found zero d h = found.0
found_at all (w ∷ ws) found (suc i) d h = let rest : i < length ws = omega (arith, h) in found_at all ws found.1 i d rest

pub number_at : (ws : List Warning) → is_ascending number_lt ws ≡ true → (i : ℕ) (w : Warning) → i < length ws → w ≡ get_or ws i w → find (has_number w.number) ws ≡ Some w
number_at ws ordered i w h is = rw is (found_at ws ws (each_found ws ordered) i w h)
