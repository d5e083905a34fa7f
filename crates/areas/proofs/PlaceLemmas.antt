-- A change at the place of a name is the change of the area of that name.
use Rattle.std.proofs.Common.{◌≡◌, ℕ, suc, ◌+◌, ◌<◌, ◌≤◌, Bool, true, false, ◌||◌, cond, List, [], ◌∷◌, map, length, get_or, set, refl, sym, ap, ◌∙◌, arith}
use Rattle.std.specs.Prelude.{bytes_eq}
use Rattle.std.specs.List.{position_or_len, list_all}
use Rattle.std.proofs.lemmas.Bool.{and_parts}
use Rattle.std.proofs.lemmas.List.Recursion.{is_position_or_len}
use Rattle.std.proofs.lemmas.Slice.Eq.{bytes_eq-Decides}
use Rattle.common.specs.Order.{is_ascending}
use Rattle.areas.specs.Areas.{is_named, has_area, changed_by, named_lt}
use Rattle.areas.specs.Laws.{has_area_after}
use Rattle.areas.specs.Name.{octets_lt}
use Rattle.areas.specs.declared.area.Area.{Area}
use Rattle.areas.specs.declared.selector.Selector.{Selector}

-- where there is no such area none is changed
pub unchanged_absent : (a : List ℕ) (f : List Selector → List Selector) (l : List Area) → has_area l a ≡ false → map (changed_by a f) l ≡ l
unchanged_absent a f [] h = refl
unchanged_absent a f (y ∷ l) h = step (unchanged_absent a f l) (bytes_eq y.name a) h
  where
    step : (has_area l a ≡ false → map (changed_by a f) l ≡ l) → (t : Bool) → (t || has_area l a) ≡ false → cond t (record { name = y.name; selectors = f y.selectors }) y ∷ map (changed_by a f) l ≡ y ∷ l
    step rest true e = cc
    step rest false e = ap (λ ys. y ∷ ys) (rest e)

-- the place of the first area of that name, or past the last
abbrev pub place_in : List ℕ → List Area → ℕ
place_in a [] = 0
place_in a (y ∷ l) = cond (is_named a y) 0 (suc (place_in a l))

pub place_in-position : (a : List ℕ) (l : List Area) → place_in a l ≡ position_or_len (is_named a) l
place_in-position a l = is_position_or_len (place_in a) (is_named a) refl (λ y m. ap (λ n. cond (is_named a y) 0 n) (more (place_in a m))) l
  where
    more : (n : ℕ) → suc n ≡ 1 + n
    more n = omega arith

-- a place past the last is no place
no_place : (a : List ℕ) (l : List Area) → length l ≤ place_in a l → has_area l a ≡ false
no_place a [] h = refl
no_place a (y ∷ l) h = step (no_place a l) (bytes_eq y.name a) h
  where
    step : (length l ≤ place_in a l → has_area l a ≡ false) → (t : Bool) → length (y ∷ l) ≤ cond t 0 (suc (place_in a l)) → (t || has_area l a) ≡ false
    step rest true e = absurd (omega arith)
    step rest false e = rest (omega arith)

-- an area with other selectors
abbrev pub with_selectors : (List Selector → List Selector) → Area → Area
with_selectors f x = record { name = x.name; selectors = f x.selectors }

changed_in : (a : List ℕ) (f : List Selector → List Selector) (l : List Area) (d : Area) → is_ascending named_lt l ≡ true → place_in a l < length l → set l (place_in a l) (with_selectors f (get_or l (place_in a l) d)) ≡ map (changed_by a f) l
changed_in a f [] d o h = absurd (omega arith)
changed_in a f (y ∷ l) d o h = step (changed_in a f l d) (bytes_eq y.name a) refl (and_parts (list_all (λ z. octets_lt y.name z.name) l) (is_ascending named_lt l) o) h
  where
    step : (is_ascending named_lt l ≡ true → place_in a l < length l → set l (place_in a l) (with_selectors f (get_or l (place_in a l) d)) ≡ map (changed_by a f) l) → (t : Bool) → bytes_eq y.name a ≡ t → (list_all (λ z. octets_lt y.name z.name) l ≡ true) × (is_ascending named_lt l ≡ true) → cond t 0 (suc (place_in a l)) < length (y ∷ l) → set (y ∷ l) (cond t 0 (suc (place_in a l))) (with_selectors f (get_or (y ∷ l) (cond t 0 (suc (place_in a l))) d)) ≡ cond t (with_selectors f y) y ∷ map (changed_by a f) l
    step rest true e o h =
        let absent : has_area l a ≡ false = ap (has_area l) (sym ((bytes_eq-Decides y.name a).0 e)) ∙ has_area_after y.name l o.0 in
        ap (λ ys. with_selectors f y ∷ ys) (sym (unchanged_absent a f l absent))
    step rest false e o h = ap (λ ys. y ∷ ys) (rest o.1 (omega arith))

-- the area x stands at the place, and xs are what f makes of its selectors
pub changed_at_place : (a : List ℕ) (f : List Selector → List Selector) (l : List Area) (n : ℕ) (x : Area) (xs : List Selector) → is_ascending named_lt l ≡ true → n ≡ position_or_len (is_named a) l → n < length l → x ≡ get_or l n x → xs ≡ f x.selectors → set l n (record { name = x.name; selectors = xs }) ≡ map (changed_by a f) l
changed_at_place a f l n x xs o e h g k =
    let place : n ≡ place_in a l = e ∙ sym (place_in-position a l) in
    let within : place_in a l < length l = omega arith in
    ap (λ (v : List Selector). set l n (record { name = x.name; selectors = v })) k
    ∙ ap (λ (z : Area). set l n (with_selectors f z)) g
    ∙ ap (λ (m : ℕ). set l m (with_selectors f (get_or l m x))) place
    ∙ changed_in a f l x o within

-- and where there is no such place nothing is changed
pub unchanged_past : (a : List ℕ) (f : List Selector → List Selector) (l : List Area) (n : ℕ) → n ≡ position_or_len (is_named a) l → length l ≤ n → l ≡ map (changed_by a f) l
unchanged_past a f l n e h =
    let place : n ≡ place_in a l = e ∙ sym (place_in-position a l) in
    sym (unchanged_absent a f l (no_place a l (omega arith)))
