-- What is told of a location area: alike of all, with one more selector, and what it says of a cell.
use Rattle.std.proofs.Common.{◌≡◌, ℕ, zero, suc, ◌≤◌, ◌-◌, ◌/◌, ◌%◌, ◌^◌, Bool, true, false, ◌&&◌, ◌||◌, not, cond, List, [], ◌∷◌, ◌++◌, length, take, drop, get_or, nat_eq, nat_le, replicate, refl, sym, ap, ◌∙◌, arith}
use Rattle.std.proofs.Math.Nat.{div-one}
use Rattle.std.proofs.Math.Seq.{take-append_seam}
use Rattle.std.specs.List.{list_any, list_all}
use Rattle.std.proofs.lemmas.Bool.{eqb-true, and_from, and_parts, or_from, or_parts}
use Rattle.std.proofs.lemmas.Bool.Decides.{nat_tests}
use Rattle.std.proofs.lemmas.Grind.{common_steps}
use Rattle.std.proofs.lemmas.List.{length-append, take-append-drop, take-append-le}
use Rattle.std.proofs.lemmas.List.Folds.{list_any-append}
use Rattle.common.specs.Order.{is_ascending}
use Rattle.common.specs.declared.cell.Cell.{Cell}
use Rattle.areas.proofs.SelectorSearch.{comes_before, or_none, or_true, other_after, other_area}
use Rattle.areas.specs.Areas.{is_among, selects}
use Rattle.areas.specs.Selector.{lac_of, selector_eq, selector_lt}
use Rattle.areas.specs.Shares.{is_of, tells, are_together, is_whole, range_of, with_selector, share_of, Tells}
use Rattle.areas.specs.declared.selector.Selector.{Selector}
use Rattle.areas.specs.declared.selector.Selector.TheVariants as selector
use Rattle.areas.specs.declared.share.Share.{Share}
use Rattle.areas.specs.declared.share.Share.TheVariants.{Nothing, All, From}
use Rattle.areas.specs.declared.shares.Shares.{Shares}

negated : (t : Bool) → not t ≡ true → t ≡ false
negated true h = cc
negated false h = refl

not_so : (t : Bool) → t ≡ false → not t ≡ true
not_so t h = ap not h

-- what holds of the one that stands at each of some places, and of the one for the places past them, holds at each place
alike_at : (P : Share → Type 0) (x d : Share) → P x → P d → (n k : ℕ) → P (get_or (replicate n x) k d)
alike_at P x d p q zero k = q
alike_at P x d p q (suc n) zero = p
alike_at P x d p q (suc n) (suc k) = alike_at P x d p q n k

either : (P : Share → Type 0) (t : Bool) (x y : Share) → P x → P y → P (cond t x y)
either P true x y p q = p
either P false x y p q = q

-- what is told from the start on holds
pub from_start : (xs : List Selector) (l : ℕ) → tells xs l (From 0) ≡ true
from_start xs l = and_from (nat_le 0 (length xs)) (not (list_any (is_of l) (take 0 xs))) (grind (arith, nat_tests)) refl

-- where what is told of each location area holds of it, all that is told holds
pub alike_tells : (xs : List Selector) (first shift : ℕ) (x : Share) → ((l : ℕ) → tells xs l x ≡ true) → Tells xs (record { first = first; shift = shift; shares = replicate 64 x })
alike_tells xs first shift x h l =
    let P = λ (s : Share). tells xs l s ≡ true in
    let range : ℕ = (l - first) / 2 ^ (shift % 16) in
    either P (nat_le first l) (get_or (replicate 64 x) range (From 0)) (From 0) (alike_at P x (From 0) (h l) (from_start xs l) 64 range) (from_start xs l)

-- one more that fails the test, one more that passes it, and one more after one that does
none_more : (p : Selector → Bool) (xs : List Selector) (s : Selector) → list_any p xs ≡ false → p s ≡ false → list_any p (xs ++ s ∷ []) ≡ false
none_more p xs s h g = list_any-append p xs (s ∷ []) ∙ or_from (list_any p xs) (p s || false) h (or_from (p s) false g refl)

any_last : (p : Selector → Bool) (xs : List Selector) (s : Selector) → p s ≡ true → list_any p (xs ++ s ∷ []) ≡ true
any_last p xs s h = list_any-append p xs (s ∷ []) ∙ ap (λ t. list_any p xs || (t || false)) h ∙ or_true (list_any p xs)

any_still : (p : Selector → Bool) (xs : List Selector) (s : Selector) → list_any p xs ≡ true → list_any p (xs ++ s ∷ []) ≡ true
any_still p xs s h = list_any-append p xs (s ∷ []) ∙ ap (λ t. t || (p s || false)) h

-- what stands behind some that aren't of the location area does so with one more
from_more : (xs : List Selector) (s : Selector) (l n : ℕ) → tells xs l (From n) ≡ true → tells (xs ++ s ∷ []) l (From n) ≡ true
from_more xs s l n h =
    let parts = and_parts (nat_le n (length xs)) (not (list_any (is_of l) (take n xs))) h in
    let within : n ≤ length xs = let e = parts.0 in grind (arith, nat_tests) in
    let more : nat_le n (length (xs ++ s ∷ [])) ≡ true = grind (arith, nat_tests, length-append xs (s ∷ [])) in
    and_from (nat_le n (length (xs ++ s ∷ []))) (not (list_any (is_of l) (take n (xs ++ s ∷ [])))) more (ap (λ ys. not (list_any (is_of l) ys)) (take-append-le n xs (s ∷ []) within) ∙ parts.1)

-- a location area of which nothing is selected is not selected itself
none_is_lac : (l : ℕ) (xs : List Selector) → list_any (is_of l) xs ≡ false → is_among (selector.Lac l) xs ≡ false
none_is_lac l [] h = refl
none_is_lac l (x ∷ xs) h =
    let parts = or_parts (is_of l x) (list_any (is_of l) xs) h in
    or_from (selector_eq x (selector.Lac l)) (is_among (selector.Lac l) xs) (apart x parts.0) (none_is_lac l xs parts.1)
  where
    apart : (y : Selector) → is_of l y ≡ false → selector_eq y (selector.Lac l) ≡ false
    apart (selector.Cell c) e = refl
    apart (selector.Lac k) e = e

-- a location area of which there is none begins with the next
from_end : (xs : List Selector) (s : Selector) (l : ℕ) → tells xs l Nothing ≡ true → tells (xs ++ s ∷ []) l (From (length xs)) ≡ true
from_end xs s l h =
    let more : nat_le (length xs) (length (xs ++ s ∷ [])) ≡ true = grind (arith, nat_tests, length-append xs (s ∷ [])) in
    and_from (nat_le (length xs) (length (xs ++ s ∷ []))) (not (list_any (is_of l) (take (length xs) (xs ++ s ∷ [])))) more (ap (λ ys. not (list_any (is_of l) ys)) (take-append_seam xs (s ∷ [])) ∙ h)

-- what is told of a range holds with one more selector in it, if that is the location area itself where it is the whole
here_more : (xs : List Selector) (s : Selector) (l : ℕ) (whole : Bool) (x : Share) → (whole ≡ true → selector_eq s (selector.Lac l) ≡ true) → tells xs l x ≡ true → tells (xs ++ s ∷ []) l (with_selector whole x (length xs)) ≡ true
here_more xs s l true Nothing g h = any_last (λ t. selector_eq t (selector.Lac l)) xs s (g refl)
here_more xs s l false Nothing g h = from_end xs s l h
here_more xs s l true All g h = any_still (λ t. selector_eq t (selector.Lac l)) xs s h
here_more xs s l false All g h = any_still (λ t. selector_eq t (selector.Lac l)) xs s h
here_more xs s l true (From n) g h = from_more xs s l n h
here_more xs s l false (From n) g h = from_more xs s l n h

-- and with one more of another
other_more : (xs : List Selector) (s : Selector) (l : ℕ) (x : Share) → is_of l s ≡ false → tells xs l x ≡ true → tells (xs ++ s ∷ []) l x ≡ true
other_more xs s l Nothing g h = not_so (list_any (is_of l) (xs ++ s ∷ [])) (none_more (is_of l) xs s (negated (list_any (is_of l) xs) h) g)
other_more xs s l All g h = any_still (λ t. selector_eq t (selector.Lac l)) xs s h
other_more xs s l (From n) g h = from_more xs s l n h

-- a selector that is all of its range is each location area of the range
whole_is : (t : Shares) (s : Selector) (l : ℕ) → is_whole t s ≡ true → are_together t (lac_of s) l ≡ true → selector_eq s (selector.Lac l) ≡ true
whole_is t (selector.Lac k) l w g = one (t.shift % 16) (eqb-true (t.shift % 16) 0 w) g
  where
    one : (n : ℕ) → n ≡ 0 → (nat_le t.first k && (nat_le t.first l && nat_eq ((k - t.first) / 2 ^ n) ((l - t.first) / 2 ^ n))) ≡ true → nat_eq k l ≡ true
    one zero e g =
        let whole_k : (k - t.first) / 2 ^ 0 ≡ k - t.first = div-one (k - t.first) in
        let whole_l : (l - t.first) / 2 ^ 0 ≡ l - t.first = div-one (l - t.first) in
        grind (arith, nat_tests, common_steps)
    one (suc n) e g = cc
whole_is t (selector.Cell c) l w g = cc

-- a location area in another range is another
apart : (t : Shares) (k l : ℕ) → are_together t k l ≡ false → nat_le t.first l ≡ true → nat_eq k l ≡ false
apart t k l g h = step (nat_eq k l) refl
  where
    step : (e : Bool) → nat_eq k l ≡ e → e ≡ false
    step false e = refl
    step true e = let same : k ≡ l = eqb-true k l e in grind (arith, nat_tests, common_steps)

-- what is told with one more selector holds
pub tells_more : (xs : List Selector) (s : Selector) (old new : Shares) → ((l : ℕ) → share_of new l ≡ cond (are_together old (lac_of s) l) (with_selector (is_whole old s) (share_of old l) (length xs)) (share_of old l)) → Tells xs old → Tells (xs ++ s ∷ []) new
tells_more xs s old new e h l = ap (tells (xs ++ s ∷ []) l) (e l) ∙ step (are_together old (lac_of s) l) refl
  where
    other : (t : Bool) → nat_le old.first l ≡ t → are_together old (lac_of s) l ≡ false → tells (xs ++ s ∷ []) l (share_of old l) ≡ true
    other true f g = other_more xs s l (share_of old l) (apart old (lac_of s) l g f) (h l)
    other false f g = ap (λ t. tells (xs ++ s ∷ []) l (cond t (get_or old.shares (range_of old l) (From 0)) (From 0))) f ∙ from_start (xs ++ s ∷ []) l

    step : (t : Bool) → are_together old (lac_of s) l ≡ t → tells (xs ++ s ∷ []) l (cond t (with_selector (is_whole old s) (share_of old l) (length xs)) (share_of old l)) ≡ true
    step true g = here_more xs s l (is_whole old s) (share_of old l) (λ w. whole_is old s l w g) (h l)
    step false g = other (nat_le old.first l) refl g

-- nor is a cell of it
none_is_cell : (c : Cell) (xs : List Selector) → list_any (is_of c.lac) xs ≡ false → is_among (selector.Cell c) xs ≡ false
none_is_cell c [] h = refl
none_is_cell c (x ∷ xs) h =
    let parts = or_parts (is_of c.lac x) (list_any (is_of c.lac) xs) h in
    or_from (selector_eq x (selector.Cell c)) (is_among (selector.Cell c) xs) (other_area c x parts.0) (none_is_cell c xs parts.1)

-- where a location area has no selector no cell of it is selected
pub none_selected : (c : Cell) (xs : List Selector) → tells xs c.lac Nothing ≡ true → false ≡ selects xs c
none_selected c xs h =
    let none : list_any (is_of c.lac) xs ≡ false = negated (list_any (is_of c.lac) xs) h in
    sym (or_from (is_among (selector.Cell c) xs) (is_among (selector.Lac c.lac) xs) (none_is_cell c xs none) (none_is_lac c.lac xs none))

-- nor is any cell of it
pub none_selected_of : (l : ℕ) (xs : List Selector) → tells xs l Nothing ≡ true → (c : Cell) → c.lac ≡ l → false ≡ selects xs c
none_selected_of l xs h c e = none_selected c xs (ap (λ m. tells xs m Nothing) e ∙ h)

-- where the location area is a selector each cell of it is selected
pub all_selected_of : (l : ℕ) (xs : List Selector) → tells xs l All ≡ true → (c : Cell) → c.lac ≡ l → true ≡ selects xs c
all_selected_of l xs h c e =
    sym (ap (λ t. is_among (selector.Cell c) xs || t) (ap (λ m. is_among (selector.Lac m) xs) e ∙ h) ∙ or_true (is_among (selector.Cell c) xs))

-- where the first aren't of its location area, the others decide
pub selected_behind : (c : Cell) (xs : List Selector) (n : ℕ) → tells xs c.lac (From n) ≡ true → selects (drop n xs) c ≡ selects xs c
selected_behind c xs n h =
    let none : list_any (is_of c.lac) (take n xs) ≡ false = negated (list_any (is_of c.lac) (take n xs)) (and_parts (nat_le n (length xs)) (not (list_any (is_of c.lac) (take n xs))) h).1 in
    λ i. among_behind (selector.Cell c) (none_is_cell c (take n xs) none) i || among_behind (selector.Lac c.lac) (none_is_lac c.lac (take n xs) none) i
  where
    among_behind : (s : Selector) → is_among s (take n xs) ≡ false → is_among s (drop n xs) ≡ is_among s xs
    among_behind s e = ap (λ t. t || is_among s (drop n xs)) (sym e) ∙ sym (list_any-append (λ t. selector_eq t s) (take n xs) (drop n xs)) ∙ ap (is_among s) (take-append-drop n xs)

-- what is left of a list in order, without some at its front, stands in order
pub dropped_ascend : (n : ℕ) (xs : List Selector) → is_ascending selector_lt xs ≡ true → is_ascending selector_lt (drop n xs) ≡ true
dropped_ascend zero xs o = o
dropped_ascend (suc n) [] o = o
dropped_ascend (suc n) (x ∷ xs) o = dropped_ascend n xs (and_parts (list_all (selector_lt x) xs) (is_ascending selector_lt xs) o).1

-- of selectors in order the first that doesn't come before another decides
pub first_decides : (s x : Selector) (xs : List Selector) → is_ascending selector_lt (x ∷ xs) ≡ true → comes_before s x ≡ false → selector_eq x s ≡ is_among s (x ∷ xs)
first_decides s x xs o h = sym (ap (λ t. selector_eq x s || t) (none_later xs (and_parts (list_all (selector_lt x) xs) (is_ascending selector_lt xs) o).0) ∙ or_none (selector_eq x s))
  where
    none_later : (ys : List Selector) → list_all (selector_lt x) ys ≡ true → is_among s ys ≡ false
    none_later [] g = refl
    none_later (y ∷ ys) g =
        let parts = and_parts (selector_lt x y) (list_all (selector_lt x) ys) g in
        or_from (selector_eq y s) (is_among s ys) (other_after s x y parts.0 h) (none_later ys parts.1)
