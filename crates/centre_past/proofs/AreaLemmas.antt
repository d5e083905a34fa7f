-- What the areas tell and count is what the entries say.
use Rattle.std.proofs.Common.{◌≡◌, ℕ, Bool, true, false, ◌&&◌, ◌||◌, not, List, [], ◌∷◌, Some, None, Ok, unwrap_or, length, map, refl, sym, ◌∙◌, ap, cond}
use Rattle.std.proofs.lemmas.Bool.{not-false, false_from_ne_true}
use Rattle.std.proofs.lemmas.List.{length-map}
use Rattle.std.proofs.lemmas.Slice.Eq.{bytes_eq-Decides}
use Rattle.std.specs.List.{list_any}
use Rattle.std.specs.Prelude.{bytes_eq}
use Rattle.areas.specs.Areas.{has_area, selectors_of, named_lt}
use Rattle.areas.specs.Areas as kept_areas
use Rattle.common.specs.OnceLaws.{any_turned, ascending_once}
use Rattle.common.specs.Order.{is_ascending, each_once}
use Rattle.common.specs.OrderLaws.{ascending_map}
use Rattle.areas.specs.Equality.{selector_decides}
use Rattle.areas.specs.Laws.{has_area_same, has_area_with_area, has_area_without_area, has_area_with_selector, has_area_without_selector, has_selector_absent, has_selector_with_area, has_selector_without_area, has_selector_with_selector, has_selector_without_selector}
use Rattle.areas.specs.Name.{octets_lt}
use Rattle.areas.specs.Order.{octets_lt-irreflexive}
use Rattle.areas.specs.Selector.{selector_eq}
use Rattle.areas.specs.declared.area.Area.{Area}
use Rattle.areas.specs.declared.selector.Selector.{Selector}
use Rattle.centre_events.specs.Cover.{area_mark, is_area, areas, area_count, added_area, selector_mark, has_selector, selectors, selector_count, put_selector}
use Rattle.centre_events.specs.Kept.{AreAreasOf, areas_then}
use Rattle.coverage_plan.specs.Edited.{areas_after}
use Rattle.centre_events.specs.Base.{Base, empty_base}
use Rattle.centre_events.specs.Past.{Past, From, After, IsUnfolded, by_edit, with_new}
use Rattle.centre_events.specs.Verdict.{answered, edit_answered, add_area_checks, put_checks}
use Rattle.centre_events.specs.declared.answer.Answer.{Answer}
use Rattle.centre_events.specs.declared.answer.Answer.TheVariants as answer
use Rattle.coverage_plan.specs.declared.edit.Edit.{Edit}
use Rattle.coverage_plan.specs.declared.edit.Edit.TheVariants as edit
use Rattle.centre_events.specs.declared.entry.Entry.{Entry}
use Rattle.centre_events.specs.declared.event.Event.{Event}
use Rattle.centre_events.specs.declared.event.Event.TheVariants as event
use Rattle.centre_events.specs.declared.network.Network.{Network}
use Rattle.centre_past.proofs.AnyLemmas.{any_same}
use Rattle.centre_past.proofs.CheckLemmas.{no_check}
use Rattle.centre_past.proofs.CountLemmas.{same_count, named_once, among_more, among_new, both_or_it}
use Rattle.centre_past.proofs.RegisterLemmas.{said_or, unsaid_or}

-- One entry further.

area_after : (e : Edit) (a : List ℕ) (l : List Area) (before : Bool) → has_area l a ≡ before → has_area (areas_after e l) a ≡ unwrap_or (area_mark a e) before
area_after (edit.AddArea x) a l before h = has_area_with_area x l a ∙ ap (λ t. bytes_eq x a || t) h ∙ sym (said_or (bytes_eq x a) before)
area_after (edit.DropArea x) a l before h = has_area_without_area x l a ∙ ap (λ t. not (bytes_eq x a) && t) h ∙ sym (unsaid_or (bytes_eq x a) before)
area_after (edit.Put x s) a l before h = has_area_with_selector x s l a ∙ h
area_after (edit.Cut x s) a l before h = has_area_without_selector x s l a ∙ h
area_after other a l before h = h

selector_after : (past : Past) (e : Edit) (given : Answer) (a : List ℕ) (s : Selector) (l : List Area) → edit_answered past e ≡ Ok given → AreAreasOf past l → kept_areas.has_selector (areas_after e l) a s ≡ unwrap_or (selector_mark a s e) (has_selector past a s)
selector_after past (edit.AddArea x) given a s l v tied = has_selector_with_area x l a s new ∙ step (bytes_eq x a) refl
  where
    new : has_area l x ≡ false
    new = tied.names x ∙ (no_check (add_area_checks past x) (Ok answer.Done) given v).1.0

    step : (t : Bool) → bytes_eq x a ≡ t → kept_areas.has_selector l a s ≡ unwrap_or (cond t (Some false) None) (has_selector past a s)
    step true e = has_selector_absent l a s (has_area_same l x a e ∙ new)
    step false e = tied.selectors a s
selector_after past (edit.DropArea x) given a s l v tied = has_selector_without_area x l a s ∙ ap (λ t. not (bytes_eq x a) && t) (tied.selectors a s) ∙ sym (unsaid_or (bytes_eq x a) (has_selector past a s))
selector_after past (edit.Put x t) given a s l v tied =
    let none = no_check (put_checks past x t) (Ok answer.Done) given v in
    let there : has_area l x ≡ true = tied.names x ∙ not-false (is_area past x) none.0 in
    has_selector_with_selector x t l a s there ∙ ap (λ b. (bytes_eq x a && selector_eq t s) || b) (tied.selectors a s) ∙ sym (said_or (bytes_eq x a && selector_eq t s) (has_selector past a s))
selector_after past (edit.Cut x t) given a s l v tied = has_selector_without_selector x t l a s ∙ ap (λ b. not (bytes_eq x a && selector_eq t s) && b) (tied.selectors a s) ∙ sym (unsaid_or (bytes_eq x a && selector_eq t s) (has_selector past a s))
selector_after past other given a s l v tied = tied.selectors a s

area_then : (e : Event) (a : List ℕ) (l : List Area) (before : Bool) → has_area l a ≡ before → has_area (areas_then e l) a ≡ unwrap_or (by_edit (area_mark a) e) before
area_then (event.Edit e) a l before h = area_after e a l before h
area_then other a l before h = h

selector_then : (network : Network) (past : Past) (e : Event) (given : Answer) (a : List ℕ) (s : Selector) (l : List Area) → answered network past e ≡ Ok given → AreAreasOf past l → kept_areas.has_selector (areas_then e l) a s ≡ unwrap_or (by_edit (selector_mark a s) e) (has_selector past a s)
selector_then network past (event.Edit e) given a s l v tied = selector_after past e given a s l v tied
selector_then network past other given a s l v tied = tied.selectors a s

-- the areas stay tied to the past, one entry further
pub areas_with : (network : Network) (e : Entry) (before : Past) (l : List Area) → answered network before e.event ≡ Ok e.answer → AreAreasOf before l → AreAreasOf (After e before) (areas_then e.event l)
areas_with network e before l v tied = record {
  unfolded = tied.unfolded;
  names = λ a. area_then e.event a l (is_area before a) (tied.names a);
  selectors = λ a s. selector_then network before e.event e.answer a s l v tied;
}

-- How many there are.

name_apart : (x y : List ℕ) → octets_lt x y ≡ true → bytes_eq x y ≡ false
name_apart x y h =
    false_from_ne_true (bytes_eq x y) (λ e. let no : true ≡ false = sym h ∙ ap (octets_lt x) (sym ((bytes_eq-Decides x y).0 e)) ∙ octets_lt-irreflexive x in cc)

area_named : (e : Edit) (a : List ℕ) (names : List (List ℕ)) (before : Bool) → (before ≡ true → list_any (bytes_eq a) names ≡ true) → unwrap_or (area_mark a e) before ≡ true → list_any (bytes_eq a) (with_new bytes_eq (added_area e) names) ≡ true
area_named (edit.AddArea x) a names before known h = step (bytes_eq x a) refl h
  where
    step : (t : Bool) → bytes_eq x a ≡ t → unwrap_or (cond t (Some true) None) before ≡ true → list_any (bytes_eq a) (with_new bytes_eq (Some x) names) ≡ true
    step true e g = among_new bytes_eq bytes_eq-Decides a x names e
    step false e g = among_more bytes_eq a (Some x) names (known g)
area_named (edit.DropArea x) a names before known h = step (bytes_eq x a) h
  where
    step : (t : Bool) → unwrap_or (cond t (Some false) None) before ≡ true → list_any (bytes_eq a) names ≡ true
    step true g = cc
    step false g = known g
area_named other a names before known h = known h

area_named_then : (e : Event) (a : List ℕ) (names : List (List ℕ)) (before : Bool) → (before ≡ true → list_any (bytes_eq a) names ≡ true) → unwrap_or (by_edit (area_mark a) e) before ≡ true → list_any (bytes_eq a) (with_new bytes_eq (by_edit added_area e) names) ≡ true
area_named_then (event.Edit e) a names before known h = area_named e a names before known h
area_named_then other a names before known h = known h

no_area : (base : Base) (a : List ℕ) → base ≡ empty_base → base.is_area a ≡ true → list_any (bytes_eq a) base.areas ≡ true
no_area base a e h = let no : empty_base.is_area a ≡ true = ap (λ (k : Base). k.is_area a) (sym e) ∙ h in cc

-- an area that is there is one of those that were ever made
pub known_area : (past : Past) → IsUnfolded past → (a : List ℕ) → is_area past a ≡ true → list_any (bytes_eq a) (areas past) ≡ true
known_area (From base) unfolded a h = no_area base a unfolded h
known_area (After e before) unfolded a h = area_named_then e.event a (areas before) (is_area before a) (known_area before unfolded a) h

-- as many areas are kept
pub areas_counted : (past : Past) (l : List Area) → is_ascending named_lt l ≡ true → AreAreasOf past l → length l ≡ area_count past
areas_counted past l ascending tied = sym (length-map l (λ (y : Area). y.name)) ∙ sym (same_count bytes_eq bytes_eq-Decides (is_area past) (areas past) (map (λ (y : Area). y.name) l) (named_once bytes_eq added_area (λ base. base.areas) refl past tied.unfolded) (ascending_once bytes_eq octets_lt name_apart (map (λ (y : Area). y.name) l) (ascending_map named_lt octets_lt (λ (y : Area). y.name) (λ x y h. h) l ascending)) members)
  where
    among : (a : List ℕ) (ys : List Area) → list_any (λ n. bytes_eq n a) (map (λ (y : Area). y.name) ys) ≡ has_area ys a
    among a [] = refl
    among a (y ∷ ys) = ap (λ t. bytes_eq y.name a || t) (among a ys)

    members : (a : List ℕ) → list_any (bytes_eq a) (map (λ (y : Area). y.name) l) ≡ (is_area past a && list_any (bytes_eq a) (areas past))
    members a = any_turned bytes_eq bytes_eq-Decides a (map (λ (y : Area). y.name) l) ∙ among a l ∙ tied.names a ∙ both_or_it (is_area past a) (list_any (bytes_eq a) (areas past)) (known_area past tied.unfolded a)

put_named : (x a : List ℕ) (t s : Selector) (found : List Selector) (before : Bool) → (before ≡ true → list_any (selector_eq s) found ≡ true) → unwrap_or (cond (bytes_eq x a && selector_eq t s) (Some true) None) before ≡ true → list_any (selector_eq s) (with_new selector_eq (cond (bytes_eq x a) (Some t) None) found) ≡ true
put_named x a t s found before known h = step (bytes_eq x a) (selector_eq t s) refl h
  where
    step : (u v : Bool) → selector_eq t s ≡ v → unwrap_or (cond (u && v) (Some true) None) before ≡ true → list_any (selector_eq s) (with_new selector_eq (cond u (Some t) None) found) ≡ true
    step true true e g = among_new selector_eq selector_decides s t found e
    step true false e g = among_more selector_eq s (Some t) found (known g)
    step false v e g = known g

selector_named : (e : Edit) (a : List ℕ) (s : Selector) (found : List Selector) (before : Bool) → (before ≡ true → list_any (selector_eq s) found ≡ true) → unwrap_or (selector_mark a s e) before ≡ true → list_any (selector_eq s) (with_new selector_eq (put_selector a e) found) ≡ true
selector_named (edit.AddArea x) a s found before known h = step (bytes_eq x a) h
  where
    step : (t : Bool) → unwrap_or (cond t (Some false) None) before ≡ true → list_any (selector_eq s) found ≡ true
    step true g = cc
    step false g = known g
selector_named (edit.DropArea x) a s found before known h = step (bytes_eq x a) h
  where
    step : (t : Bool) → unwrap_or (cond t (Some false) None) before ≡ true → list_any (selector_eq s) found ≡ true
    step true g = cc
    step false g = known g
selector_named (edit.Put x t) a s found before known h = put_named x a t s found before known h
selector_named (edit.Cut x t) a s found before known h = step (bytes_eq x a && selector_eq t s) h
  where
    step : (u : Bool) → unwrap_or (cond u (Some false) None) before ≡ true → list_any (selector_eq s) found ≡ true
    step true g = cc
    step false g = known g
selector_named other a s found before known h = known h

selector_named_then : (e : Event) (a : List ℕ) (s : Selector) (found : List Selector) (before : Bool) → (before ≡ true → list_any (selector_eq s) found ≡ true) → unwrap_or (by_edit (selector_mark a s) e) before ≡ true → list_any (selector_eq s) (with_new selector_eq (by_edit (put_selector a) e) found) ≡ true
selector_named_then (event.Edit e) a s found before known h = selector_named e a s found before known h
selector_named_then other a s found before known h = known h

no_selector : (base : Base) (a : List ℕ) (s : Selector) → base ≡ empty_base → base.has_selector a s ≡ true → list_any (selector_eq s) (base.selectors a) ≡ true
no_selector base a s e h = let no : empty_base.has_selector a s ≡ true = ap (λ (k : Base). k.has_selector a s) (sym e) ∙ h in cc

-- a selector that is there is one of those that were ever put into the area
pub known_selector : (past : Past) → IsUnfolded past → (a : List ℕ) (s : Selector) → has_selector past a s ≡ true → list_any (selector_eq s) (selectors past a) ≡ true
known_selector (From base) unfolded a s h = no_selector base a s unfolded h
known_selector (After e before) unfolded a s h = selector_named_then e.event a s (selectors before a) (has_selector before a s) (known_selector before unfolded a s) h

-- as many selectors of an area are kept
pub selectors_counted : (past : Past) (l : List Area) (a : List ℕ) → ((x : List ℕ) → each_once selector_eq (selectors_of l x) ≡ true) → AreAreasOf past l → length (selectors_of l a) ≡ selector_count past a
selectors_counted past l a once tied = sym (same_count selector_eq selector_decides (has_selector past a) (selectors past a) (selectors_of l a) (named_once selector_eq (put_selector a) (λ base. base.selectors a) refl past tied.unfolded) (once a) members)
  where
    members : (s : Selector) → list_any (selector_eq s) (selectors_of l a) ≡ (has_selector past a s && list_any (selector_eq s) (selectors past a))
    members s = any_turned selector_eq selector_decides s (selectors_of l a) ∙ tied.selectors a s ∙ both_or_it (has_selector past a s) (list_any (selector_eq s) (selectors past a)) (known_selector past tied.unfolded a s)

-- a name is no area where the areas have none of it
pub names_there : (past : Past) (l : List Area) (names : List (List ℕ)) → AreAreasOf past l → list_any (λ a. not (has_area l a)) names ≡ list_any (λ a. not (is_area past a)) names
names_there past l names tied = any_same (λ a. not (has_area l a)) (λ a. not (is_area past a)) (λ a. ap not (tied.names a)) names
