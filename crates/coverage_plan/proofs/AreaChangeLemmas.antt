-- Which pairs an edit of the areas changes.
use Rattle.std.proofs.Common.{◌≡◌, ℕ, Bool, true, false, ◌&&◌, ◌||◌, not, cond, List, [], ◌∷◌, Option, Some, None, filter, if◌then◌else◌, refl, sym, ◌∙◌, ap, eqb-true}
use Rattle.std.proofs.lemmas.Bool.{and_parts, and_right, or_parts, or_right}
use Rattle.std.proofs.lemmas.Slice.Eq.{bytes_eq-Decides}
use Rattle.std.specs.List.{list_any, find}
use Rattle.std.specs.Option.{is_some}
use Rattle.std.specs.Prelude.{bytes_eq}
use Rattle.areas.specs.Areas.{has_area, selectors_of, is_among, has_selector, covers, with_area, without_area, with_selector, without_selector}
use Rattle.areas.specs.Equality.{selector_decides}
use Rattle.areas.specs.Laws.{selectors_of_with_area, selectors_of_without_area, has_selector_with_selector, has_selector_without_selector}
use Rattle.areas.specs.Selector.{selector_eq}
use Rattle.areas.specs.declared.area.Area.{Area}
use Rattle.areas.specs.declared.selector.Selector.{Selector}
use Rattle.areas.specs.declared.selector.Selector.TheVariants as selector
use Rattle.common.specs.Cell.{cell_eq}
use Rattle.common.specs.Equality.{cell_decides}
use Rattle.common.specs.OnceLaws.{turned}
use Rattle.common.specs.Order.{is_ascending}
use Rattle.common.specs.declared.cell.Cell.{Cell}
use Rattle.warning_book.specs.Book.{has_number, number_lt, names, warning_is, warning_of}
use Rattle.warning_book.specs.Laws.{absent_so, found_so}
use Rattle.warning_book.specs.declared.warning.Warning.{Warning}
use Rattle.coverage_plan.proofs.ChangeLemmas.{covering_in, changed, changed_with, by_names, still}
use Rattle.coverage_plan.proofs.FilterLemmas.{names_turned, agree_besides, filter_agree, any_same, any_and, filters_differ}
use Rattle.coverage_plan.specs.ChangeLaws.{areas_in, there_found}
use Rattle.coverage_plan.specs.Changes.{Changes, names_differ, is_changed}
use Rattle.coverage_plan.specs.Plan.{State, place}
use Rattle.coverage_plan.specs.Reach.{is_registered, is_named_by, other_selector, is_of_selector}

-- the plan with other areas
abbrev pub with_areas : State → List Area → State
with_areas st l = record st { areas = l }

-- no pair changes where the areas of each warning cover as they did
no_cover : (st : State) (l : List Area) → ((c : Cell) (n : ℕ) → covering_in st.areas c (warning_of st.book n) ≡ covering_in l c (warning_of st.book n)) → Changes st (with_areas st l) []
no_cover st l same = record {
  ordered = refl;
  exact = λ c n. sym (changed_with st (with_areas st l) c n (place st c) (place st c) (warning_of st.book n) (warning_of st.book n) refl refl refl refl ∙ still (place st c) st.areas l c (warning_of st.book n) (same c n));
}

-- an area covers by its selectors
covers_by : (l m : List Area) (a : List ℕ) (c : Cell) → selectors_of l a ≡ selectors_of m a → covers l a c ≡ covers m a c
covers_by l m a c e = ap (λ xs. is_among (selector.Cell c) xs || is_among (selector.Lac c.lac) xs) e

-- an area is added

pub added_area : (st : State) (a : List ℕ) → has_area st.areas a ≡ false → Changes st (with_areas st (with_area a st.areas)) []
added_area st a fresh =
    no_cover st (with_area a st.areas)
    (λ c n. filter_agree (λ b. covers st.areas b c) (λ b. covers (with_area a st.areas) b c) (λ b. covers_by st.areas (with_area a st.areas) b c (sym (selectors_of_with_area a st.areas b fresh))) (areas_in (warning_of st.book n)))

-- an area is dropped that no warning names

areas_unused : (a : List ℕ) (n : ℕ) (ws : List Warning) → list_any (names a) ws ≡ false → list_any (λ b. bytes_eq b a) (areas_in (find (has_number n) ws)) ≡ false
areas_unused a n [] h = refl
areas_unused a n (w ∷ ws) h =
    let parts = or_parts (names a w) (list_any (names a) ws) h in
    step (has_number n w) parts.0 (areas_unused a n ws parts.1)
  where
    step : (t : Bool) → names a w ≡ false → list_any (λ b. bytes_eq b a) (areas_in (find (has_number n) ws)) ≡ false → list_any (λ b. bytes_eq b a) (areas_in (if t then Some w else find (has_number n) ws)) ≡ false
    step true here rest = here
    step false here rest = rest

other_area : (a b : List ℕ) (l : List Area) → bytes_eq b a ≡ false → selectors_of l b ≡ selectors_of (without_area a l) b
other_area a b l h = sym (selectors_of_without_area a l b ∙ ap (λ t. cond t [] (selectors_of l b)) (turned bytes_eq bytes_eq-Decides a b ∙ h))

pub dropped_area : (st : State) (a : List ℕ) → list_any (names a) st.book.warnings ≡ false → Changes st (with_areas st (without_area a st.areas)) []
dropped_area st a unused =
    no_cover st (without_area a st.areas)
    (λ c n. agree_besides (λ b. bytes_eq b a) (λ b. covers st.areas b c) (λ b. covers (without_area a st.areas) b c) (λ b h. covers_by st.areas (without_area a st.areas) b c (other_area a b st.areas h)) (areas_in (warning_of st.book n)) (areas_unused a n st.book.warnings unused))

-- a selector is put into an area, or cut out of it

-- the second areas have in the area one selector more
record Widens (l m : List Area) (a : List ℕ) (s : Selector) : Type 0 where
  wider : (b : List ℕ) (c : Cell) → covers m b c ≡ ((bytes_eq a b && is_named_by s c) || covers l b c)
  lacks : has_selector l a s ≡ false

-- where the area does not have the selector, it covers what that names by the other one alone
by_other : (l : List Area) (a : List ℕ) (s : Selector) (c : Cell) → has_selector l a s ≡ false → is_named_by s c ≡ true → covers l a c ≡ has_selector l a (other_selector s c)
by_other l a (selector.Cell d) c lacks named =
    ap (λ t. t || has_selector l a (selector.Lac c.lac)) (ap (λ (k : Cell). has_selector l a (selector.Cell k)) (sym ((cell_decides d c).0 named)) ∙ lacks)
by_other l a (selector.Lac lac) c lacks named =
    ap (λ t. has_selector l a (selector.Cell c) || t) (ap (λ (k : ℕ). has_selector l a (selector.Lac k)) (sym (eqb-true lac c.lac named)) ∙ lacks) ∙ or_alone (has_selector l a (selector.Cell c))
  where
    or_alone : (t : Bool) → (t || false) ≡ t
    or_alone true = refl
    or_alone false = refl

newly : (l m : List Area) (a : List ℕ) (s : Selector) → Widens l m a s → (c : Cell) (b : List ℕ) → (covers m b c && not (covers l b c)) ≡ (bytes_eq b a && (is_named_by s c && not (has_selector l a (other_selector s c))))
newly l m a s widens c b =
    ap (λ t. t && not (covers l b c)) (widens.wider b c) ∙ alone (bytes_eq a b && is_named_by s c) (covers l b c) ∙ at (bytes_eq a b) refl ∙ ap (λ t. t && (is_named_by s c && not (has_selector l a (other_selector s c)))) (turned bytes_eq bytes_eq-Decides a b)
  where
    alone : (t u : Bool) → ((t || u) && not u) ≡ (t && not u)
    alone true u = refl
    alone false true = refl
    alone false false = refl

    named : (t : Bool) → is_named_by s c ≡ t → (t && not (covers l a c)) ≡ (t && not (has_selector l a (other_selector s c)))
    named true e = ap not (by_other l a s c widens.lacks e)
    named false e = refl

    at : (t : Bool) → bytes_eq a b ≡ t → ((t && is_named_by s c) && not (covers l b c)) ≡ (t && (is_named_by s c && not (has_selector l a (other_selector s c))))
    at true e =
        ap (λ k. is_named_by s c && not (covers l k c)) (sym ((bytes_eq-Decides a b).0 e)) ∙ named (is_named_by s c) refl
    at false e = refl

-- the areas of a warning that cover a cell are not the same where the warning names the area, and only the selector
-- puts the cell into it
widened_differ : (l m : List Area) (a : List ℕ) (s : Selector) → Widens l m a s → (c : Cell) (xs : List (List ℕ)) → names_differ (filter (λ b. covers l b c) xs) (filter (λ b. covers m b c) xs) ≡ (list_any (λ b. bytes_eq b a) xs && (is_named_by s c && not (has_selector l a (other_selector s c))))
widened_differ l m a s widens c xs =
    filters_differ (λ b. covers l b c) (λ b. covers m b c) (λ b h. widens.wider b c ∙ or_right (bytes_eq a b && is_named_by s c) (covers l b c) h) xs
    ∙ any_same (λ b. covers m b c && not (covers l b c)) (λ b. bytes_eq b a && (is_named_by s c && not (has_selector l a (other_selector s c)))) (newly l m a s widens c) xs
    ∙ any_and (λ b. bytes_eq b a) (is_named_by s c && not (has_selector l a (other_selector s c))) xs

-- the pairs of the area's warnings and of the cells that pass the test are those that change
of_area : (st : State) (l : List Area) (a : List ℕ) → is_ascending number_lt st.book.warnings ≡ true → (c : Cell) (t : Bool) → ((xs : List (List ℕ)) → names_differ (filter (λ b. covers st.areas b c) xs) (filter (λ b. covers l b c) xs) ≡ (list_any (λ b. bytes_eq b a) xs && t)) → (n : ℕ) → ((is_registered st.register c && t) && warning_is st.book n (names a)) ≡ is_changed st (with_areas st l) c n
of_area st l a ordered c t differs n =
    at (warning_of st.book n) refl ∙ sym (changed_with st (with_areas st l) c n p p (warning_of st.book n) (warning_of st.book n) refl refl refl refl)
  where
    p : Option ℕ
    p = place st c

    shuffled : (r u k : Bool) → ((r && u) && k) ≡ (r && (k && u))
    shuffled true true true = refl
    shuffled true true false = refl
    shuffled true false true = refl
    shuffled true false false = refl
    shuffled false u k = refl

    at : (v : Option Warning) → warning_of st.book n ≡ v → ((is_some p && t) && warning_is st.book n (names a)) ≡ changed p p st.areas l c v v
    at None e =
        ap (λ u. (is_some p && t) && u) (absent_so n (names a) st.book.warnings (there_found n st.book.warnings ∙ ap (λ (o : Option Warning). is_some o) e)) ∙ and_right (is_some p && t) false refl ∙ sym (still p st.areas l c None refl)
    at (Some w) e =
        ap (λ u. (is_some p && t) && u) (found_so n (names a) st.book.warnings w ordered e)
        ∙ shuffled (is_some p) t (names a w)
        ∙ ap (λ u. is_some p && u) (sym (differs w.areas))
        ∙ sym (by_names p st.areas l c w w refl refl)

-- putting

wider_by : (e m n h k : Bool) → (((e && m) || h) || ((e && n) || k)) ≡ ((e && (m || n)) || (h || k))
wider_by true true n h k = refl
wider_by true false true true k = refl
wider_by true false true false k = refl
wider_by true false false h k = refl
wider_by false m n h k = refl

named_is : (s : Selector) (c : Cell) → is_named_by s c ≡ (selector_eq s (selector.Cell c) || selector_eq s (selector.Lac c.lac))
named_is (selector.Cell d) c = sym (or_alone (cell_eq d c))
  where
    or_alone : (t : Bool) → (t || false) ≡ t
    or_alone true = refl
    or_alone false = refl
named_is (selector.Lac lac) c = refl

put_widens : (l : List Area) (a : List ℕ) (s : Selector) → has_area l a ≡ true → has_selector l a s ≡ false → Widens l (with_selector a s l) a s
put_widens l a s there fresh = record {
  wider = λ b c.
      ap (λ t. t || has_selector (with_selector a s l) b (selector.Lac c.lac)) (has_selector_with_selector a s l b (selector.Cell c) there)
      ∙ ap (λ t. ((bytes_eq a b && selector_eq s (selector.Cell c)) || has_selector l b (selector.Cell c)) || t) (has_selector_with_selector a s l b (selector.Lac c.lac) there)
      ∙ wider_by (bytes_eq a b) (selector_eq s (selector.Cell c)) (selector_eq s (selector.Lac c.lac)) (has_selector l b (selector.Cell c)) (has_selector l b (selector.Lac c.lac))
      ∙ ap (λ t. (bytes_eq a b && t) || covers l b c) (sym (named_is s c));
  lacks = fresh;
}

-- a selector is put into an area
pub put_selector : (st : State) (a : List ℕ) (s : Selector) → is_ascending number_lt st.book.warnings ≡ true → has_area st.areas a ≡ true → has_selector st.areas a s ≡ false → (c : Cell) (n : ℕ) → is_of_selector st.register st.areas st.book a s c n ≡ is_changed st (with_areas st (with_selector a s st.areas)) c n
put_selector st a s ordered there fresh c n =
    of_area st (with_selector a s st.areas) a ordered c (is_named_by s c && not (has_selector st.areas a (other_selector s c))) (widened_differ st.areas (with_selector a s st.areas) a s (put_widens st.areas a s there fresh) c) n

-- cutting

-- what is left of a selector's two tests, where one that is cut was there
cut_back : (e m n h k : Bool) → ((e && m) ≡ true → h ≡ true) → ((e && n) ≡ true → k ≡ true) → (h || k) ≡ ((e && (m || n)) || ((not (e && m) && h) || (not (e && n) && k)))
cut_back true true n h k f g = ap (λ t. t || k) (f refl)
cut_back true false true true k f g = refl
cut_back true false true false k f g = g refl
cut_back true false false h k f g = refl
cut_back false m n h k f g = refl

-- the selector that is cut was there
cut_there : (l : List Area) (a : List ℕ) (s : Selector) → has_selector l a s ≡ true → (b : List ℕ) (t : Selector) → (bytes_eq a b && selector_eq s t) ≡ true → has_selector l b t ≡ true
cut_there l a s there b t h =
    let parts = and_parts (bytes_eq a b) (selector_eq s t) h in
    ap (λ k. has_selector l k t) (sym ((bytes_eq-Decides a b).0 parts.0)) ∙ ap (has_selector l a) (sym ((selector_decides s t).0 parts.1)) ∙ there

cut_widens : (l : List Area) (a : List ℕ) (s : Selector) → has_selector l a s ≡ true → Widens (without_selector a s l) l a s
cut_widens l a s there = record {
  wider = λ b c.
      cut_back (bytes_eq a b) (selector_eq s (selector.Cell c)) (selector_eq s (selector.Lac c.lac)) (has_selector l b (selector.Cell c)) (has_selector l b (selector.Lac c.lac)) (cut_there l a s there b (selector.Cell c)) (cut_there l a s there b (selector.Lac c.lac))
      ∙ ap (λ t. (bytes_eq a b && t) || ((not (bytes_eq a b && selector_eq s (selector.Cell c)) && has_selector l b (selector.Cell c)) || (not (bytes_eq a b && selector_eq s (selector.Lac c.lac)) && has_selector l b (selector.Lac c.lac)))) (sym (named_is s c))
      ∙ ap (λ t. (bytes_eq a b && is_named_by s c) || (t || (not (bytes_eq a b && selector_eq s (selector.Lac c.lac)) && has_selector l b (selector.Lac c.lac)))) (sym (has_selector_without_selector a s l b (selector.Cell c)))
      ∙ ap (λ t. (bytes_eq a b && is_named_by s c) || (has_selector (without_selector a s l) b (selector.Cell c) || t)) (sym (has_selector_without_selector a s l b (selector.Lac c.lac)));
  lacks = has_selector_without_selector a s l a s ∙ ap (λ t. not (t && selector_eq s s) && has_selector l a s) ((bytes_eq-Decides a a).1 refl) ∙ ap (λ t. not t && has_selector l a s) ((selector_decides s s).1 refl);
}

-- the other selector stays
other_stays : (l : List Area) (a : List ℕ) (s : Selector) (c : Cell) → has_selector (without_selector a s l) a (other_selector s c) ≡ has_selector l a (other_selector s c)
other_stays l a s c =
    has_selector_without_selector a s l a (other_selector s c) ∙ ap (λ t. not t && has_selector l a (other_selector s c)) (and_right (bytes_eq a a) (selector_eq s (other_selector s c)) (another s))
  where
    another : (t : Selector) → selector_eq t (other_selector t c) ≡ false
    another (selector.Cell d) = refl
    another (selector.Lac lac) = refl

-- a selector is cut out of an area
pub cut_selector : (st : State) (a : List ℕ) (s : Selector) → is_ascending number_lt st.book.warnings ≡ true → has_selector st.areas a s ≡ true → (c : Cell) (n : ℕ) → is_of_selector st.register st.areas st.book a s c n ≡ is_changed st (with_areas st (without_selector a s st.areas)) c n
cut_selector st a s ordered there c n =
    of_area st (without_selector a s st.areas) a ordered c (is_named_by s c && not (has_selector st.areas a (other_selector s c)))
    (λ xs. names_turned (filter (λ b. covers st.areas b c) xs) (filter (λ b. covers (without_selector a s st.areas) b c) xs)
    ∙ widened_differ (without_selector a s st.areas) st.areas a s (cut_widens st.areas a s there) c xs
    ∙ ap (λ t. list_any (λ b. bytes_eq b a) xs && (is_named_by s c && not t)) (other_stays st.areas a s c)) n
