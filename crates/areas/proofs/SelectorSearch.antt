-- In a list in order a selector stands where those before it end.
use Rattle.std.proofs.Common.{◌≡◌, ℕ, ◌<◌, ◌≤◌, Bool, true, false, ◌||◌, List, length, take, drop, get_or, nat_eq, ltb, ltb-true, ltb-false, refl, sym, ap, ◌∙◌, arith}
use Rattle.std.specs.List.{AllWithin}
use Rattle.std.specs.List.Sorted.{IsPartitionPoint, IsPartitionedBy}
use Rattle.std.proofs.lemmas.Bool.{false_from_ne_true}
use Rattle.std.proofs.lemmas.List.Elements.{All-from_get_or}
use Rattle.std.proofs.lemmas.Bool.Decides.{nat_tests}
use Rattle.std.proofs.lemmas.Grind.{common_steps}
use Rattle.std.proofs.lemmas.List.{get_or_default, get_or-take, length-take-le, take-append-drop}
use Rattle.std.proofs.lemmas.List.Folds.{list_any-append, list_any_at, list_any_none}
use Rattle.common.specs.Order.{is_ascending}
use Rattle.common.specs.declared.cell.Cell.{Cell}
use Rattle.common.specs.RisingLaws as rising
use Rattle.areas.specs.Areas.{is_among, selects}
use Rattle.areas.specs.Equality.{selector_decides}
use Rattle.areas.specs.Selector.{lac_of, selector_eq, selector_lt}
use Rattle.areas.specs.SelectorLaws.{selector_follows, selector_other}
use Rattle.areas.specs.declared.selector.Selector.{Selector}
use Rattle.areas.specs.declared.selector.Selector.TheVariants as selector

pub or_true : (t : Bool) → (t || true) ≡ true
or_true true = refl
or_true false = refl

pub or_none : (t : Bool) → (t || false) ≡ t
or_none true = refl
or_none false = refl

-- the selector comes before the other
abbrev pub comes_before : Selector → Selector → Bool
comes_before s x = selector_lt x s

-- a selector before one that comes before s does so too
pub parted : (s : Selector) (xs : List Selector) → is_ascending selector_lt xs ≡ true → IsPartitionedBy (comes_before s) xs
parted s xs o = rising.parted selector_lt (comes_before s) (λ x y h g. selector_follows x y s h g) xs o

-- where all before a place come before s, and the one there doesn't, is the point
pub point_at : (s : Selector) (xs : List Selector) (n : ℕ) (d : Selector) → is_ascending selector_lt xs ≡ true → n < length xs → AllWithin (λ x. comes_before s x ≡ true) xs 0 n → comes_before s (get_or xs n d) ≡ false → IsPartitionPoint (λ x. comes_before s x ≡ true) (λ x. comes_before s x ≡ false) xs n
point_at s xs n d o h before at = (before, later)
  where
    later : AllWithin (λ x. comes_before s x ≡ false) xs n (length xs)
    later k e a b =
        false_from_ne_true (comes_before s (get_or xs k e)) (λ t. let no : true ≡ false = sym (parted s xs o n k e a b t) ∙ ap (comes_before s) (get_or_default xs n e d h) ∙ at in cc)

-- a selector that comes before s is another
other_before : (s x : Selector) → comes_before s x ≡ true → selector_eq x s ≡ false
other_before s x h = selector_other x s h

-- a selector after one that doesn't come before s is another
pub other_after : (s x y : Selector) → selector_lt x y ≡ true → comes_before s x ≡ false → selector_eq y s ≡ false
other_after s x y h g =
    false_from_ne_true (selector_eq y s) (λ e. let no : true ≡ false = sym h ∙ ap (selector_lt x) ((selector_decides y s).0 e) ∙ g in cc)

-- none is s
pub none_at_point : (s : Selector) (xs : List Selector) (n : ℕ) (d : Selector) → is_ascending selector_lt xs ≡ true → n ≤ length xs → IsPartitionPoint (λ x. comes_before s x ≡ true) (λ x. comes_before s x ≡ false) xs n → (n < length xs → selector_eq (get_or xs n d) s ≡ false) → false ≡ is_among s xs
none_at_point s xs n d o h point e =
    sym (list_any_none (λ t. selector_eq t s) xs (All-from_get_or (λ t. selector_eq t s ≡ false) xs d other))
  where
    other : (k : ℕ) → k < length xs → selector_eq (get_or xs k d) s ≡ false
    other k g = before (ltb k n) refl
      where
        after : (t : Bool) → ltb n k ≡ t → n ≤ k → selector_eq (get_or xs k d) s ≡ false
        after true f b = other_after s (get_or xs n d) (get_or xs k d) (rising.rises selector_lt xs n k d o (ltb-true n k f) g) (point.1 n d (omega arith) (omega arith))
        after false f b = let same : k ≡ n = omega (arith, ltb-false n k f) in ap (λ m. selector_eq (get_or xs m d) s) same ∙ e (omega arith)

        before : (t : Bool) → ltb k n ≡ t → selector_eq (get_or xs k d) s ≡ false
        before true f = other_before s (get_or xs k d) (point.0 k d (omega arith) (ltb-true k n f))
        before false f = after (ltb n k) refl (ltb-false k n f)

-- the selector at the point tells
pub told_at_point : (s : Selector) (xs : List Selector) (n : ℕ) (d : Selector) → is_ascending selector_lt xs ≡ true → n < length xs → IsPartitionPoint (λ x. comes_before s x ≡ true) (λ x. comes_before s x ≡ false) xs n → selector_eq (get_or xs n d) s ≡ is_among s xs
told_at_point s xs n d o h point = step (selector_eq (get_or xs n d) s) refl
  where
    step : (t : Bool) → selector_eq (get_or xs n d) s ≡ t → t ≡ is_among s xs
    step true e = sym (list_any_at (λ t. selector_eq t s) xs n d h e)
    step false e = none_at_point s xs n d o (omega arith) point (λ g. e)

-- a selector before a location area is no cell of it
less_area : (c : Cell) (x : Selector) → comes_before (selector.Lac c.lac) x ≡ true → selector_eq x (selector.Cell c) ≡ false
less_area c (selector.Cell d) h = grind (arith, nat_tests, common_steps)
less_area c (selector.Lac l) h = refl

-- nor is a selector of another location area
pub other_area : (c : Cell) (x : Selector) → nat_eq (lac_of x) c.lac ≡ false → selector_eq x (selector.Cell c) ≡ false
other_area c (selector.Cell d) h = grind (arith, nat_tests, common_steps)
other_area c (selector.Lac l) h = refl

-- nor one after a selector of a greater one
past_area : (c : Cell) (x y : Selector) → selector_lt x y ≡ true → comes_before (selector.Lac c.lac) x ≡ false → nat_eq (lac_of x) c.lac ≡ false → selector_eq y (selector.Cell c) ≡ false
past_area c (selector.Cell d) (selector.Cell e) g h k = grind (arith, nat_tests, common_steps)
past_area c (selector.Lac l) (selector.Cell e) g h k = grind (arith, nat_tests, common_steps)
past_area c x (selector.Lac m) g h k = refl

-- where the first that doesn't come before the location area of a cell is of another, none is the cell
pub none_of_area : (c : Cell) (xs : List Selector) (n : ℕ) (d : Selector) → is_ascending selector_lt xs ≡ true → n ≤ length xs → IsPartitionPoint (λ x. comes_before (selector.Lac c.lac) x ≡ true) (λ x. comes_before (selector.Lac c.lac) x ≡ false) xs n → (n < length xs → nat_eq (lac_of (get_or xs n d)) c.lac ≡ false) → false ≡ is_among (selector.Cell c) xs
none_of_area c xs n d o h point e =
    sym (list_any_none (λ t. selector_eq t (selector.Cell c)) xs (All-from_get_or (λ t. selector_eq t (selector.Cell c) ≡ false) xs d other))
  where
    other : (k : ℕ) → k < length xs → selector_eq (get_or xs k d) (selector.Cell c) ≡ false
    other k g = before (ltb k n) refl
      where
        after : (t : Bool) → ltb n k ≡ t → n ≤ k → selector_eq (get_or xs k d) (selector.Cell c) ≡ false
        after true f b = past_area c (get_or xs n d) (get_or xs k d) (rising.rises selector_lt xs n k d o (ltb-true n k f) g) (point.1 n d (omega arith) (omega arith)) (e (omega arith))
        after false f b = let same : k ≡ n = omega (arith, ltb-false n k f) in ap (λ m. selector_eq (get_or xs m d) (selector.Cell c)) same ∙ other_area c (get_or xs n d) (e (omega arith))

        before : (t : Bool) → ltb k n ≡ t → selector_eq (get_or xs k d) (selector.Cell c) ≡ false
        before true f = less_area c (get_or xs k d) (point.0 k d (omega arith) (ltb-true k n f))
        before false f = after (ltb n k) refl (ltb-false k n f)

-- where all come before the location area of a cell it is not selected
pub none_from : (c : Cell) (xs : List Selector) (n : ℕ) (d : Selector) → is_ascending selector_lt xs ≡ true → n ≡ length xs → IsPartitionPoint (λ x. comes_before (selector.Lac c.lac) x ≡ true) (λ x. comes_before (selector.Lac c.lac) x ≡ false) xs n → false ≡ selects xs c
none_from c xs n d o h point =
    let cell : false ≡ is_among (selector.Cell c) xs = none_of_area c xs n d o (omega arith) point (λ g. absurd (omega arith)) in
    let lac : false ≡ is_among (selector.Lac c.lac) xs = none_at_point (selector.Lac c.lac) xs n d o (omega arith) point (λ g. absurd (omega arith)) in
    lac ∙ ap (λ t. t || is_among (selector.Lac c.lac) xs) cell

-- where the first that doesn't is a location area, that decides
pub lac_decides : (c : Cell) (xs : List Selector) (n : ℕ) (d : Selector) (k : ℕ) → is_ascending selector_lt xs ≡ true → n < length xs → IsPartitionPoint (λ x. comes_before (selector.Lac c.lac) x ≡ true) (λ x. comes_before (selector.Lac c.lac) x ≡ false) xs n → get_or xs n d ≡ selector.Lac k → nat_eq k c.lac ≡ selects xs c
lac_decides c xs n d k o h point e = step (nat_eq k c.lac) refl
  where
    lac : nat_eq k c.lac ≡ is_among (selector.Lac c.lac) xs
    lac = sym (ap (λ x. selector_eq x (selector.Lac c.lac)) e) ∙ told_at_point (selector.Lac c.lac) xs n d o h point

    step : (t : Bool) → nat_eq k c.lac ≡ t → t ≡ selects xs c
    step true g = sym (ap (λ t. is_among (selector.Cell c) xs || t) (sym lac ∙ g) ∙ or_true (is_among (selector.Cell c) xs))
    step false g = sym g ∙ lac ∙ ap (λ t. t || is_among (selector.Lac c.lac) xs) (none_of_area c xs n d o (omega arith) point (λ f. ap (λ x. nat_eq (lac_of x) c.lac) e ∙ g))

-- where it is a cell, the cells decide
pub cell_decides : (c : Cell) (xs : List Selector) (n : ℕ) (d : Selector) (e : Cell) → is_ascending selector_lt xs ≡ true → n < length xs → IsPartitionPoint (λ x. comes_before (selector.Lac c.lac) x ≡ true) (λ x. comes_before (selector.Lac c.lac) x ≡ false) xs n → get_or xs n d ≡ selector.Cell e → is_among (selector.Cell c) xs ≡ selects xs c
cell_decides c xs n d e o h point s =
    let lac : false ≡ is_among (selector.Lac c.lac) xs = sym (ap (λ x. selector_eq x (selector.Lac c.lac)) s) ∙ told_at_point (selector.Lac c.lac) xs n d o h point in
    sym (ap (λ t. is_among (selector.Cell c) xs || t) (sym lac) ∙ or_none (is_among (selector.Cell c) xs))

-- and of another location area none of its own is selected
pub other_decides : (c : Cell) (xs : List Selector) (n : ℕ) (d : Selector) (e : Cell) → is_ascending selector_lt xs ≡ true → n < length xs → IsPartitionPoint (λ x. comes_before (selector.Lac c.lac) x ≡ true) (λ x. comes_before (selector.Lac c.lac) x ≡ false) xs n → get_or xs n d ≡ selector.Cell e → nat_eq e.lac c.lac ≡ false → nat_eq e.lac c.lac ≡ selects xs c
other_decides c xs n d e o h point s g =
    g ∙ none_of_area c xs n d o (omega arith) point (λ f. ap (λ x. nat_eq (lac_of x) c.lac) s ∙ g) ∙ cell_decides c xs n d e o h point s

-- a cell is among those from where its location area begins, or nowhere
pub cell_behind : (c : Cell) (xs : List Selector) (n : ℕ) → IsPartitionPoint (λ x. comes_before (selector.Lac c.lac) x ≡ true) (λ x. comes_before (selector.Lac c.lac) x ≡ false) xs n → n ≤ length xs → is_among (selector.Cell c) (drop n xs) ≡ is_among (selector.Cell c) xs
cell_behind c xs n point h =
    let cell : Selector = selector.Cell c in
    ap (λ t. t || is_among cell (drop n xs)) (sym (list_any_none (λ t. selector_eq t cell) (take n xs) (All-from_get_or (λ t. selector_eq t cell ≡ false) (take n xs) cell other)))
    ∙ sym (list_any-append (λ t. selector_eq t cell) (take n xs) (drop n xs))
    ∙ ap (is_among cell) (take-append-drop n xs)
  where
    other : (k : ℕ) → k < length (take n xs) → selector_eq (get_or (take n xs) k (selector.Cell c)) (selector.Cell c) ≡ false
    other k g =
        let within : k < n = omega (arith, length-take-le n xs h) in
        ap (λ x. selector_eq x (selector.Cell c)) (get_or-take n xs k (selector.Cell c) within) ∙ less_area c (get_or xs k (selector.Cell c)) (point.0 k (selector.Cell c) (omega arith) within)
