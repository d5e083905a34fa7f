-- Each edit that nothing forbids leaves the areas sound.
use Rattle.std.proofs.Common.{◌≡◌, ℕ, ◌<◌, ◌≤◌, Bool, true, false, ◌||◌, not, cond, List, [], map, length, refl, sym, ap, ◌∙◌, arith, lit≤}
use Rattle.std.specs.Prelude.{bytes_eq}
use Rattle.std.proofs.lemmas.Slice.Eq.{bytes_eq-Decides}
use Rattle.common.specs.Order.{is_ascending}
use Rattle.common.specs.OrderLaws.{all_from_none, ascending_inserted, ascending_filter, ascending_map, length_filter, length_inserted}
use Rattle.areas.specs.Areas.{is_named, has_area, selectors_of, has_selector, empty_area, named_lt, with_area, without_area, changed_by, with_one, with_selector, without, without_selector, IsSound}
use Rattle.areas.specs.Laws.{length_with_area, length_with_selector, length_without_selector, selectors_of_with_area, selectors_of_without_area, selectors_of_with_selector, selectors_of_without_selector}
use Rattle.areas.specs.Name.{octets_lt}
use Rattle.areas.specs.Order.{octets_lt-total, octets_lt-transitive}
use Rattle.areas.specs.Selector.{selector_eq, selector_lt}
use Rattle.areas.specs.SelectorLaws.{selector_follows, selector_apart}
use Rattle.areas.specs.declared.area.Area.{Area}
use Rattle.areas.specs.declared.selector.Selector.{Selector}

-- order

-- of two names that differ one comes before the other
apart : (a : List ℕ) (y : Area) → is_named a y ≡ false → (octets_lt y.name a || octets_lt a y.name) ≡ true
apart a y h = step (octets_lt y.name a) refl
  where
    step : (t : Bool) → octets_lt y.name a ≡ t → (t || octets_lt a y.name) ≡ true
    step true e = refl
    step false e = octets_lt-total y.name a e h

ascending-with_area : (a : List ℕ) (l : List Area) → has_area l a ≡ false → is_ascending named_lt l ≡ true → is_ascending named_lt (with_area a l) ≡ true
ascending-with_area a l h o =
    ascending_inserted named_lt (λ x y z. octets_lt-transitive x.name y.name z.name) (empty_area a) l (all_from_none (is_named a) (λ y. named_lt y (empty_area a) || named_lt (empty_area a) y) (apart a) l h) o

name-changed_by : (a : List ℕ) (f : List Selector → List Selector) (x : Area) → (changed_by a f x).name ≡ x.name
name-changed_by a f x = step (is_named a x)
  where
    step : (t : Bool) → (let y : Area = cond t (record { name = x.name; selectors = f x.selectors }) x in y.name) ≡ x.name
    step true = refl
    step false = refl

before-changed_by : (a : List ℕ) (f : List Selector → List Selector) (x y : Area) → named_lt x y ≡ true → named_lt (changed_by a f x) (changed_by a f y) ≡ true
before-changed_by a f x y h =
    ap (λ n. octets_lt n (changed_by a f y).name) (name-changed_by a f x) ∙ ap (octets_lt x.name) (name-changed_by a f y) ∙ h

ascending-changed : (a : List ℕ) (f : List Selector → List Selector) (l : List Area) → is_ascending named_lt l ≡ true → is_ascending named_lt (map (changed_by a f) l) ≡ true
ascending-changed a f l o = ascending_map named_lt named_lt (changed_by a f) (before-changed_by a f) l o

-- selectors

-- a choice that is good both ways
ordered_either : (t : Bool) (xs ys : List Selector) → (t ≡ true → is_ascending selector_lt xs ≡ true) → is_ascending selector_lt ys ≡ true → is_ascending selector_lt (cond t xs ys) ≡ true
ordered_either true xs ys f g = f refl
ordered_either false xs ys f g = g

short_either : (t : Bool) (xs ys : List Selector) → (t ≡ true → length xs ≤ 4096) → length ys ≤ 4096 → length (cond t xs ys) ≤ 4096
short_either true xs ys f g = f refl
short_either false xs ys f g = g

-- edits

pub sound-with_area : (a : List ℕ) (l : List Area) → IsSound l → has_area l a ≡ false → length l < 4096 → IsSound (with_area a l)
sound-with_area a l s new below =
    record {
      ascending = ascending-with_area a l new s.ascending;
      few = omega (arith, length_with_area a l);
      ordered = λ x. rw (selectors_of_with_area a l x new) (s.ordered x);
      short = λ x. rw (selectors_of_with_area a l x new) (s.short x);
    }

pub sound-without_area : (a : List ℕ) (l : List Area) → IsSound l → IsSound (without_area a l)
sound-without_area a l s =
    record {
      ascending = ascending_filter named_lt (λ x. not (is_named a x)) l s.ascending;
      few = let fewer = length_filter (λ (x : Area). not (is_named a x)) l in let all = s.few in omega arith;
      ordered = λ x. rw (selectors_of_without_area a l x) (ordered_either (bytes_eq a x) [] (selectors_of l x) (λ e. refl) (s.ordered x));
      short = λ x. rw (selectors_of_without_area a l x) (short_either (bytes_eq a x) [] (selectors_of l x) (λ e. lit≤ tt) (s.short x));
    }

pub sound-with_selector : (a : List ℕ) (t : Selector) (l : List Area) → IsSound l → has_area l a ≡ true → has_selector l a t ≡ false → length (selectors_of l a) < 4096 → IsSound (with_selector a t l)
sound-with_selector a t l s has new below =
    record {
      ascending = ascending-changed a (with_one t) l s.ascending;
      few = rw (length_with_selector a t l) s.few;
      ordered = λ x. rw (selectors_of_with_selector a t l x has) (ordered_either (bytes_eq a x) (with_one t (selectors_of l x)) (selectors_of l x) (λ e. ordered_here x e new) (s.ordered x));
      short = λ x. rw (selectors_of_with_selector a t l x has) (short_either (bytes_eq a x) (with_one t (selectors_of l x)) (selectors_of l x) (λ e. short_here x e below) (s.short x));
    }
  where
    ordered_here : (x : List ℕ) → bytes_eq a x ≡ true → has_selector l a t ≡ false → is_ascending selector_lt (with_one t (selectors_of l x)) ≡ true
    ordered_here x e g =
        let absent : has_selector l x t ≡ false = ap (λ n. has_selector l n t) (sym ((bytes_eq-Decides a x).0 e)) ∙ g in
        ascending_inserted selector_lt selector_follows t (selectors_of l x) (all_from_none (λ u. selector_eq u t) (λ u. selector_lt u t || selector_lt t u) (λ u. selector_apart t u) (selectors_of l x) absent) (s.ordered x)

    short_here : (x : List ℕ) → bytes_eq a x ≡ true → length (selectors_of l a) < 4096 → length (with_one t (selectors_of l x)) ≤ 4096
    short_here x e g =
        let same : length (selectors_of l x) ≡ length (selectors_of l a) = ap (λ n. length (selectors_of l n)) (sym ((bytes_eq-Decides a x).0 e)) in
        omega (arith, length_inserted selector_lt t (selectors_of l x))

pub sound-without_selector : (a : List ℕ) (t : Selector) (l : List Area) → IsSound l → IsSound (without_selector a t l)
sound-without_selector a t l s =
    record {
      ascending = ascending-changed a (without t) l s.ascending;
      few = rw (length_without_selector a t l) s.few;
      ordered = λ x. rw (selectors_of_without_selector a t l x) (ordered_either (bytes_eq a x) (without t (selectors_of l x)) (selectors_of l x) (λ e. ascending_filter selector_lt (λ u. not (selector_eq u t)) (selectors_of l x) (s.ordered x)) (s.ordered x));
      short = λ x. rw (selectors_of_without_selector a t l x) (short_either (bytes_eq a x) (without t (selectors_of l x)) (selectors_of l x) (λ e. fewer (selectors_of l x) (s.short x)) (s.short x));
    }
  where
    fewer : (xs : List Selector) → length xs ≤ 4096 → length (without t xs) ≤ 4096
    fewer xs g = let less = length_filter (λ (u : Selector). not (selector_eq u t)) xs in omega arith
