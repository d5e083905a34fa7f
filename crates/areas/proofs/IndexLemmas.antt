-- Each edit leaves the index what the areas say, and the areas of a cell are found by it.
use Rattle.std.proofs.Common.{◌≡◌, ℕ, Bool, true, false, ◌&&◌, ◌||◌, not, List, refl, sym, ap, ◌∙◌}
use Rattle.std.specs.Prelude.{bytes_eq}
use Rattle.std.specs.List.{list_any}
use Rattle.std.proofs.lemmas.Slice.Eq.{bytes_eq-Decides}
use Rattle.common.specs.OnceLaws.{any_turned}
use Rattle.common.specs.Order.{is_ascending}
use Rattle.common.specs.OrderLaws.{ascending_filter, ascending_map}
use Rattle.common.specs.SortingLaws.{same_ascending}
use Rattle.common.specs.declared.cell.Cell.{Cell}
use Rattle.areas.specs.Areas.{has_area, selectors_of, has_selector, covers, names_of, areas_of, named_lt, with_area, without_area, with_selector, without_selector}
use Rattle.areas.specs.Equality.{selector_decides}
use Rattle.areas.specs.Holders.{has_name, holds, IsWithHolder, IsWithoutHolder, IsWithoutAll, IsIndex}
use Rattle.areas.specs.Laws.{has_selector_with_area, has_selector_without_area, has_selector_with_selector, has_selector_without_selector, among_areas_of}
use Rattle.areas.specs.Name.{octets_lt}
use Rattle.areas.specs.Order.{octets_lt-irreflexive, octets_lt-transitive}
use Rattle.areas.specs.Selector.{selector_eq}
use Rattle.areas.specs.declared.area.Area.{Area}
use Rattle.areas.specs.declared.selector.Selector.{Selector}
use Rattle.areas.specs.declared.selector.Selector.TheVariants as selector
use Rattle.areas.specs.declared.selector_key.SelectorKey.{SelectorKey}

and_turned : (x y : Bool) → (x && y) ≡ (y && x)
and_turned true true = refl
and_turned true false = refl
and_turned false true = refl
and_turned false false = refl

-- a new area has no selector
pub index-with_area : (a : List ℕ) (l : List Area) (holders : List (SelectorKey × List (List ℕ))) → has_area l a ≡ false → IsIndex holders l → IsIndex holders (with_area a l)
index-with_area a l holders new index s b = index s b ∙ sym (has_selector_with_area a l b s new)

-- with one more selector of an area
pub index-with_selector : (a : List ℕ) (s : Selector) (l : List Area) (old new : List (SelectorKey × List (List ℕ))) → has_area l a ≡ true → IsIndex old l → IsWithHolder old new s a → IsIndex new (with_selector a s l)
index-with_selector a s l old new there index more t b =
    more t b ∙ (λ i. and_turned (selector_eq s t) (bytes_eq a b) i || index t b i) ∙ sym (has_selector_with_selector a s l b t there)

-- with one selector of an area less
pub index-without_selector : (a : List ℕ) (s : Selector) (l : List Area) (old new : List (SelectorKey × List (List ℕ))) → IsIndex old l → IsWithoutHolder old new s a → IsIndex new (without_selector a s l)
index-without_selector a s l old new index less t b =
    less t b ∙ (λ i. not (and_turned (selector_eq s t) (bytes_eq a b) i) && index t b i) ∙ sym (has_selector_without_selector a s l b t)

-- without the area
pub index-without_area : (a : List ℕ) (l : List Area) (old new : List (SelectorKey × List (List ℕ))) → IsIndex old l → IsWithoutAll old new (selectors_of l a) a → IsIndex new (without_area a l)
index-without_area a l old new index less t b =
    less t b ∙ ap (λ p. not (has_selector l a t && bytes_eq a b) && p) (index t b) ∙ step (bytes_eq a b) refl ∙ sym (has_selector_without_area a l b t)
  where
    none : (p : Bool) → (not (p && true) && p) ≡ false
    none true = refl
    none false = refl

    rest : (p q : Bool) → (not (p && false) && q) ≡ q
    rest true q = refl
    rest false q = refl

    step : (e : Bool) → bytes_eq a b ≡ e → (not (has_selector l a t && e) && has_selector l b t) ≡ (not e && has_selector l b t)
    step true e = ap (λ n. not (has_selector l a t && true) && has_selector l n t) (sym ((bytes_eq-Decides a b).0 e)) ∙ none (has_selector l a t)
    step false e = rest (has_selector l a t) (has_selector l b t)

-- what is put in and taken out again leaves the index as it was
pub index-taken_back : (a : List ℕ) (s : Selector) (l : List Area) (old mid new : List (SelectorKey × List (List ℕ))) → has_selector l a s ≡ false → IsIndex old l → IsWithHolder old mid s a → IsWithoutHolder mid new s a → IsIndex new l
index-taken_back a s l old mid new absent index more less t b = less t b ∙ ap (λ p. not (selector_eq s t && bytes_eq a b) && p) (more t b) ∙ step (selector_eq s t && bytes_eq a b) refl ∙ index t b
  where
    at : (x y : Bool) → (x && y) ≡ true → (x ≡ true) × (y ≡ true)
    at true y h = (refl, h)
    at false y h = cc

    step : (p : Bool) → (selector_eq s t && bytes_eq a b) ≡ p → (not p && (p || holds old t b)) ≡ holds old t b
    step true e =
        let both = at (selector_eq s t) (bytes_eq a b) e in
        sym (index t b ∙ ap (has_selector l b) (sym ((selector_decides s t).0 both.0)) ∙ ap (λ n. has_selector l n s) (sym ((bytes_eq-Decides a b).0 both.1)) ∙ absent)
    step false e = refl

-- the names found by the index are those of the areas that cover the cell
pub areas_by_index : (c : Cell) (l : List Area) (holders : List (SelectorKey × List (List ℕ))) (names : List (List ℕ)) → is_ascending named_lt l ≡ true → IsIndex holders l → ((a : List ℕ) → has_name a names ≡ (holds holders (selector.Cell c) a || holds holders (selector.Lac c.lac) a)) → is_ascending octets_lt names ≡ true → names ≡ areas_of l c
areas_by_index c l holders names order index found ascend =
    same_ascending bytes_eq octets_lt bytes_eq-Decides octets_lt-irreflexive octets_lt-transitive names (areas_of l c) ascend there same
  where
    there : is_ascending octets_lt (areas_of l c) ≡ true
    there = ascending_filter octets_lt (λ a. covers l a c) (names_of l) (ascending_map named_lt octets_lt (λ (x : Area). x.name) (λ x y h. h) l order)

    same : (a : List ℕ) → list_any (bytes_eq a) names ≡ list_any (bytes_eq a) (areas_of l c)
    same a =
        any_turned bytes_eq bytes_eq-Decides a names ∙ found a ∙ (λ i. index (selector.Cell c) a i || index (selector.Lac c.lac) a i) ∙ sym (among_areas_of l c a) ∙ sym (any_turned bytes_eq bytes_eq-Decides a (areas_of l c))
