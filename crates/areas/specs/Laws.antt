-- What each edit changes, for every list of areas: whether an area is there, whether it has a selector, how many there are.
use Rattle.std.proofs.Common.{◌≡◌, ℕ, ◌+◌, Bool, true, false, ◌&&◌, ◌||◌, not, cond, List, [], ◌∷◌, map, length, refl, sym, ap, ◌∙◌}
use Rattle.std.specs.Prelude.{bytes_eq}
use Rattle.std.proofs.lemmas.Bool.{and_parts, or_parts, false_from_ne_true}
use Rattle.std.proofs.lemmas.List.{length-map}
use Rattle.std.proofs.lemmas.Slice.Eq.{bytes_eq-Decides}
use Rattle.std.specs.List.{list_any, list_all}
use Rattle.common.specs.declared.cell.Cell.{Cell}
use Rattle.common.specs.OnceLaws.{apart_along, any_without_key, length_without_same, any_filter_same}
use Rattle.common.specs.Order.{is_ascending, each_once}
use Rattle.common.specs.OrderLaws.{any_inserted, length_inserted, length_without, left_out, left_in}
use Rattle.areas.specs.Areas.{is_named, has_area, selectors_of, is_among, has_selector, covers, names_of, areas_of, empty_area, named_lt, with_area, without_area, changed_by, with_one, with_selector, without, without_selector}
use Rattle.areas.specs.Equality.{selector_decides}
use Rattle.areas.specs.Name.{octets_lt}
use Rattle.areas.specs.Order.{octets_lt-irreflexive}
use Rattle.areas.specs.Selector.{selector_eq, selector_lt}
use Rattle.areas.specs.declared.area.Area.{Area}
use Rattle.areas.specs.declared.selector.Selector.{Selector}
use Rattle.areas.specs.declared.selector.Selector.TheVariants as selector

cond_same : {A : Type 0} (t : Bool) (x : A) → cond t x x ≡ x
cond_same true x = refl
cond_same false x = refl

-- equal names ask for the same area
pub has_area_same : (l : List Area) (a x : List ℕ) → bytes_eq a x ≡ true → has_area l x ≡ has_area l a
has_area_same l a x h = ap (has_area l) (sym ((bytes_eq-Decides a x).0 h))

-- whether an area is there

pub has_area_with_area : (a : List ℕ) (l : List Area) (x : List ℕ) → has_area (with_area a l) x ≡ (bytes_eq a x || has_area l x)
has_area_with_area a l x = any_inserted named_lt (is_named x) (empty_area a) l

pub has_area_without_area : (a : List ℕ) (l : List Area) (x : List ℕ) → has_area (without_area a l) x ≡ (not (bytes_eq a x) && has_area l x)
has_area_without_area a l x = any_without_key bytes_eq bytes_eq-Decides (λ (y : Area). y.name) a x l

has_area_changed : (a : List ℕ) (f : List Selector → List Selector) (l : List Area) (x : List ℕ) → has_area (map (changed_by a f) l) x ≡ has_area l x
has_area_changed a f [] x = refl
has_area_changed a f (y ∷ l) x = step (has_area_changed a f l x) (is_named a y)
  where
    step : has_area (map (changed_by a f) l) x ≡ has_area l x → (t : Bool) → has_area (cond t (record { name = y.name; selectors = f y.selectors }) y ∷ map (changed_by a f) l) x ≡ (bytes_eq y.name x || has_area l x)
    step rest true = ap (λ t. bytes_eq y.name x || t) rest
    step rest false = ap (λ t. bytes_eq y.name x || t) rest

pub has_area_with_selector : (a : List ℕ) (s : Selector) (l : List Area) (x : List ℕ) → has_area (with_selector a s l) x ≡ has_area l x
has_area_with_selector a s l x = has_area_changed a (with_one s) l x

pub has_area_without_selector : (a : List ℕ) (s : Selector) (l : List Area) (x : List ℕ) → has_area (without_selector a s l) x ≡ has_area l x
has_area_without_selector a s l x = has_area_changed a (without s) l x

-- the selectors of an area

pub selectors_of_absent : (l : List Area) (a : List ℕ) → has_area l a ≡ false → selectors_of l a ≡ []
selectors_of_absent [] a h = refl
selectors_of_absent (y ∷ l) a h = step (selectors_of_absent l a) (is_named a y) h
  where
    step : (has_area l a ≡ false → selectors_of l a ≡ []) → (t : Bool) → (t || has_area l a) ≡ false → cond t y.selectors (selectors_of l a) ≡ []
    step rest true e = cc
    step rest false e = rest e

-- an area that is not there has the selectors of one without any
new_is_absent : (l : List Area) (a x : List ℕ) → has_area l a ≡ false → cond (bytes_eq a x) [] (selectors_of l x) ≡ selectors_of l x
new_is_absent l a x h = step (bytes_eq a x) refl
  where
    step : (t : Bool) → bytes_eq a x ≡ t → cond t [] (selectors_of l x) ≡ selectors_of l x
    step true e = sym (selectors_of_absent l x (has_area_same l a x e ∙ h))
    step false e = refl

pub selectors_of_with_area : (a : List ℕ) (l : List Area) (x : List ℕ) → has_area l a ≡ false → selectors_of (with_area a l) x ≡ selectors_of l x
selectors_of_with_area a [] x h = cond_same (bytes_eq a x) []
selectors_of_with_area a (y ∷ l) x h = step (selectors_of_with_area a l x (or_parts (bytes_eq y.name a) (has_area l a) h).1) (octets_lt y.name a)
  where
    step : selectors_of (with_area a l) x ≡ selectors_of l x → (t : Bool) → selectors_of (cond t (y ∷ with_area a l) (empty_area a ∷ y ∷ l)) x ≡ selectors_of (y ∷ l) x
    step rest true = ap (λ xs. cond (bytes_eq y.name x) y.selectors xs) rest
    step rest false = new_is_absent (y ∷ l) a x h

pub selectors_of_without_area : (a : List ℕ) (l : List Area) (x : List ℕ) → selectors_of (without_area a l) x ≡ cond (bytes_eq a x) [] (selectors_of l x)
selectors_of_without_area a [] x = sym (cond_same (bytes_eq a x) [])
selectors_of_without_area a (y ∷ l) x = step (selectors_of_without_area a l x) (bytes_eq y.name a) refl
  where
    step : selectors_of (without_area a l) x ≡ cond (bytes_eq a x) [] (selectors_of l x) → (t : Bool) → bytes_eq y.name a ≡ t → selectors_of (cond (not t) (y ∷ without_area a l) (without_area a l)) x ≡ cond (bytes_eq a x) [] (cond (bytes_eq y.name x) y.selectors (selectors_of l x))
    step rest true e = rest ∙ left_out (bytes_eq a x) (bytes_eq y.name x) [] y.selectors (selectors_of l x) (ap (λ n. bytes_eq n x) ((bytes_eq-Decides y.name a).0 e))
    step rest false e = ap (λ xs. cond (bytes_eq y.name x) y.selectors xs) rest ∙ left_in (bytes_eq a x) (bytes_eq y.name x) [] y.selectors (selectors_of l x) (apart_along bytes_eq bytes_eq-Decides y.name a x e)

-- the area that has the name is the one that is changed
here : {A : Type 0} (f : A → A) (p q h : Bool) (s r : A) → q ≡ p → cond q (f s) (cond (p && h) (f r) r) ≡ cond (p && (q || h)) (f (cond q s r)) (cond q s r)
here f true true h s r e = refl
here f true false h s r e = cc
here f false true h s r e = cc
here f false false h s r e = refl

elsewhere : {A : Type 0} (f : A → A) (p q h : Bool) (s r : A) → (p ≡ true → q ≡ false) → cond q s (cond (p && h) (f r) r) ≡ cond (p && (q || h)) (f (cond q s r)) (cond q s r)
elsewhere f true true h s r g = absurd (let no : true ≡ false = g refl in cc)
elsewhere f true false h s r g = refl
elsewhere f false q h s r g = refl

selectors_of_changed : (a : List ℕ) (f : List Selector → List Selector) (l : List Area) (x : List ℕ) → selectors_of (map (changed_by a f) l) x ≡ cond (bytes_eq a x && has_area l x) (f (selectors_of l x)) (selectors_of l x)
selectors_of_changed a f [] x = none (bytes_eq a x)
  where
    none : (p : Bool) → [] ≡ cond (p && false) (f []) []
    none true = refl
    none false = refl
selectors_of_changed a f (y ∷ l) x = step (selectors_of_changed a f l x) (bytes_eq y.name a) refl
  where
    step : selectors_of (map (changed_by a f) l) x ≡ cond (bytes_eq a x && has_area l x) (f (selectors_of l x)) (selectors_of l x) → (t : Bool) → bytes_eq y.name a ≡ t → selectors_of (cond t (record { name = y.name; selectors = f y.selectors }) y ∷ map (changed_by a f) l) x ≡ cond (bytes_eq a x && (bytes_eq y.name x || has_area l x)) (f (cond (bytes_eq y.name x) y.selectors (selectors_of l x))) (cond (bytes_eq y.name x) y.selectors (selectors_of l x))
    step rest true e =
        ap (λ xs. cond (bytes_eq y.name x) (f y.selectors) xs) rest
        ∙ here f (bytes_eq a x) (bytes_eq y.name x) (has_area l x) y.selectors (selectors_of l x) (ap (λ n. bytes_eq n x) ((bytes_eq-Decides y.name a).0 e))
    step rest false e =
        ap (λ xs. cond (bytes_eq y.name x) y.selectors xs) rest
        ∙ elsewhere f (bytes_eq a x) (bytes_eq y.name x) (has_area l x) y.selectors (selectors_of l x) (apart_along bytes_eq bytes_eq-Decides y.name a x e)

-- an area that is there is changed
changed_there : (a : List ℕ) (f : List Selector → List Selector) (l : List Area) (x : List ℕ) → has_area l a ≡ true → selectors_of (map (changed_by a f) l) x ≡ cond (bytes_eq a x) (f (selectors_of l x)) (selectors_of l x)
changed_there a f l x h = selectors_of_changed a f l x ∙ step (bytes_eq a x) refl
  where
    step : (t : Bool) → bytes_eq a x ≡ t → cond (t && has_area l x) (f (selectors_of l x)) (selectors_of l x) ≡ cond t (f (selectors_of l x)) (selectors_of l x)
    step true e = ap (λ t. cond t (f (selectors_of l x)) (selectors_of l x)) (has_area_same l a x e ∙ h)
    step false e = refl

pub selectors_of_with_selector : (a : List ℕ) (s : Selector) (l : List Area) (x : List ℕ) → has_area l a ≡ true → selectors_of (with_selector a s l) x ≡ cond (bytes_eq a x) (with_one s (selectors_of l x)) (selectors_of l x)
selectors_of_with_selector a s l x h = changed_there a (with_one s) l x h

pub selectors_of_without_selector : (a : List ℕ) (s : Selector) (l : List Area) (x : List ℕ) → selectors_of (without_selector a s l) x ≡ cond (bytes_eq a x) (without s (selectors_of l x)) (selectors_of l x)
selectors_of_without_selector a s l x = selectors_of_changed a (without s) l x ∙ step (has_area l x) refl
  where
    both : (p : Bool) → cond (p && true) (without s (selectors_of l x)) (selectors_of l x) ≡ cond p (without s (selectors_of l x)) (selectors_of l x)
    both true = refl
    both false = refl

    none : (p : Bool) (xs : List Selector) → xs ≡ [] → cond (p && false) (without s xs) xs ≡ cond p (without s xs) xs
    none true xs e = rw e refl
    none false xs e = refl

    step : (t : Bool) → has_area l x ≡ t → cond (bytes_eq a x && t) (without s (selectors_of l x)) (selectors_of l x) ≡ cond (bytes_eq a x) (without s (selectors_of l x)) (selectors_of l x)
    step true e = both (bytes_eq a x)
    step false e = none (bytes_eq a x) (selectors_of l x) (selectors_of_absent l x e)

-- whether an area has a selector

pub has_selector_absent : (l : List Area) (a : List ℕ) (s : Selector) → has_area l a ≡ false → has_selector l a s ≡ false
has_selector_absent l a s h = ap (is_among s) (selectors_of_absent l a h)

pub has_selector_with_area : (a : List ℕ) (l : List Area) (x : List ℕ) (s : Selector) → has_area l a ≡ false → has_selector (with_area a l) x s ≡ has_selector l x s
has_selector_with_area a l x s h = ap (is_among s) (selectors_of_with_area a l x h)

pub has_selector_without_area : (a : List ℕ) (l : List Area) (x : List ℕ) (s : Selector) → has_selector (without_area a l) x s ≡ (not (bytes_eq a x) && has_selector l x s)
has_selector_without_area a l x s = ap (is_among s) (selectors_of_without_area a l x) ∙ step (bytes_eq a x)
  where
    step : (t : Bool) → is_among s (cond t [] (selectors_of l x)) ≡ (not t && has_selector l x s)
    step true = refl
    step false = refl

pub has_selector_with_selector : (a : List ℕ) (s : Selector) (l : List Area) (x : List ℕ) (t : Selector) → has_area l a ≡ true → has_selector (with_selector a s l) x t ≡ ((bytes_eq a x && selector_eq s t) || has_selector l x t)
has_selector_with_selector a s l x t h = ap (is_among t) (selectors_of_with_selector a s l x h) ∙ step (bytes_eq a x)
  where
    step : (p : Bool) → is_among t (cond p (with_one s (selectors_of l x)) (selectors_of l x)) ≡ ((p && selector_eq s t) || has_selector l x t)
    step true = any_inserted selector_lt (λ u. selector_eq u t) s (selectors_of l x)
    step false = refl

is_among_without : (s t : Selector) (xs : List Selector) → is_among t (without s xs) ≡ (not (selector_eq s t) && is_among t xs)
is_among_without s t xs = any_without_key selector_eq selector_decides (λ (u : Selector). u) s t xs

pub has_selector_without_selector : (a : List ℕ) (s : Selector) (l : List Area) (x : List ℕ) (t : Selector) → has_selector (without_selector a s l) x t ≡ (not (bytes_eq a x && selector_eq s t) && has_selector l x t)
has_selector_without_selector a s l x t = ap (is_among t) (selectors_of_without_selector a s l x) ∙ step (bytes_eq a x)
  where
    step : (p : Bool) → is_among t (cond p (without s (selectors_of l x)) (selectors_of l x)) ≡ (not (p && selector_eq s t) && has_selector l x t)
    step true = is_among_without s t (selectors_of l x)
    step false = refl

-- the areas that cover a cell

has_area_names : (l : List Area) (a : List ℕ) → list_any (λ n. bytes_eq n a) (names_of l) ≡ has_area l a
has_area_names [] a = refl
has_area_names (y ∷ l) a = ap (λ t. bytes_eq y.name a || t) (has_area_names l a)

-- an area is among those that cover the cell just where it covers it
pub among_areas_of : (l : List Area) (c : Cell) (a : List ℕ) → list_any (λ n. bytes_eq n a) (areas_of l c) ≡ covers l a c
among_areas_of l c a =
    any_filter_same bytes_eq bytes_eq-Decides (λ n. covers l n c) a (names_of l) ∙ ap (λ t. covers l a c && t) (has_area_names l a) ∙ step (has_area l a) refl
  where
    all : (p : Bool) → (p && true) ≡ p
    all true = refl
    all false = refl

    none : (p : Bool) → p ≡ false → (p && false) ≡ p
    none true e = sym e
    none false e = refl

    step : (t : Bool) → has_area l a ≡ t → (covers l a c && t) ≡ covers l a c
    step true e = all (covers l a c)
    step false e = none (covers l a c) (ap (λ xs. is_among (selector.Cell c) xs || is_among (selector.Lac c.lac) xs) (selectors_of_absent l a e))

-- how many there are

pub length_with_area : (a : List ℕ) (l : List Area) → length (with_area a l) ≡ length l + 1
length_with_area a l = length_inserted named_lt (empty_area a) l

-- the names after a name in order are others
pub has_area_after : (a : List ℕ) (l : List Area) → list_all (λ y. octets_lt a y.name) l ≡ true → has_area l a ≡ false
has_area_after a [] h = refl
has_area_after a (y ∷ l) h = step (has_area_after a l) (bytes_eq y.name a) refl (and_parts (octets_lt a y.name) (list_all (λ z. octets_lt a z.name) l) h)
  where
    step : (list_all (λ z. octets_lt a z.name) l ≡ true → has_area l a ≡ false) → (t : Bool) → bytes_eq y.name a ≡ t → (octets_lt a y.name ≡ true) × (list_all (λ z. octets_lt a z.name) l ≡ true) → (t || has_area l a) ≡ false
    step rest true e parts = sym parts.0 ∙ ap (octets_lt a) ((bytes_eq-Decides y.name a).0 e) ∙ octets_lt-irreflexive a
    step rest false e parts = rest parts.1

-- an area that comes after one of a name has another
named_after : (a : List ℕ) (x y : Area) → is_named a x ≡ true → named_lt x y ≡ true → is_named a y ≡ false
named_after a x y e h =
    false_from_ne_true (is_named a y) (λ g. let no : true ≡ false = sym h ∙ ap (λ n. octets_lt n y.name) ((bytes_eq-Decides x.name a).0 e) ∙ ap (octets_lt a) ((bytes_eq-Decides y.name a).0 g) ∙ octets_lt-irreflexive a in cc)

pub length_without_area : (a : List ℕ) (l : List Area) → has_area l a ≡ true → is_ascending named_lt l ≡ true → length l ≡ length (without_area a l) + 1
length_without_area a l h o = length_without named_lt (is_named a) (named_after a) l o h

pub length_with_selector : (a : List ℕ) (s : Selector) (l : List Area) → length (with_selector a s l) ≡ length l
length_with_selector a s l = length-map l (changed_by a (with_one s))

pub length_without_selector : (a : List ℕ) (s : Selector) (l : List Area) → length (without_selector a s l) ≡ length l
length_without_selector a s l = length-map l (changed_by a (without s))

pub length_selectors_of_with_selector : (a : List ℕ) (s : Selector) (l : List Area) (x : List ℕ) → has_area l a ≡ true → length (selectors_of (with_selector a s l) x) ≡ cond (bytes_eq a x) (length (selectors_of l x) + 1) (length (selectors_of l x))
length_selectors_of_with_selector a s l x h = ap length (selectors_of_with_selector a s l x h) ∙ step (bytes_eq a x)
  where
    step : (p : Bool) → length (cond p (with_one s (selectors_of l x)) (selectors_of l x)) ≡ cond p (length (selectors_of l x) + 1) (length (selectors_of l x))
    step true = length_inserted selector_lt s (selectors_of l x)
    step false = refl

pub length_selectors_of_without_selector : (a : List ℕ) (s : Selector) (l : List Area) (x : List ℕ) → has_selector l a s ≡ true → each_once selector_eq (selectors_of l a) ≡ true → length (selectors_of l x) ≡ cond (bytes_eq a x) (length (selectors_of (without_selector a s l) x) + 1) (length (selectors_of (without_selector a s l) x))
length_selectors_of_without_selector a s l x h o = step (bytes_eq a x) refl (selectors_of_without_selector a s l x)
  where
    fewer : (xs : List Selector) → is_among s xs ≡ true → each_once selector_eq xs ≡ true → length xs ≡ length (without s xs) + 1
    fewer xs h o = length_without_same selector_eq selector_decides s xs o h

    step : (p : Bool) → bytes_eq a x ≡ p → selectors_of (without_selector a s l) x ≡ cond p (without s (selectors_of l x)) (selectors_of l x) → length (selectors_of l x) ≡ cond p (length (selectors_of (without_selector a s l) x) + 1) (length (selectors_of (without_selector a s l) x))
    step true e g =
        let same : a ≡ x = (bytes_eq-Decides a x).0 e in
        fewer (selectors_of l x) (ap (λ n. has_selector l n s) (sym same) ∙ h) (ap (λ n. each_once selector_eq (selectors_of l n)) (sym same) ∙ o) ∙ ap (λ xs. length xs + 1) (sym g)
    step false e g = ap length (sym g)
