-- Whether a pair changes, by what its cell and its warning are before and after.
use Rattle.std.proofs.Common.{◌≡◌, ℕ, Bool, true, false, ◌&&◌, ◌||◌, not, List, Option, Some, None, filter, if◌then◌else◌, refl, sym, ◌∙◌, ap, eq-eqb}
use Rattle.std.proofs.lemmas.Bool.{and_right}
use Rattle.std.specs.Option.{is_some, option_and_then}
use Rattle.areas.specs.Areas.{covers}
use Rattle.areas.specs.declared.area.Area.{Area}
use Rattle.common.specs.declared.cell.Cell.{Cell}
use Rattle.warning_book.specs.Book.{current_of, warning_of}
use Rattle.warning_book.specs.declared.warning.Warning.{Warning}
use Rattle.coverage_plan.proofs.FilterLemmas.{is_full, any_full, names_same}
use Rattle.coverage_plan.specs.ChangeLaws.{areas_in, there_found, areas_found, same_names}
use Rattle.coverage_plan.specs.Changes.{differ, names_differ, is_changed}
use Rattle.coverage_plan.specs.Plan.{State, place, is_covered}

-- what is wanted of a warning, if there is one, in a cell with this place
abbrev pub wanted_at : Option ℕ → List Area → Cell → Option Warning → Option ℕ
wanted_at p l c o = option_and_then (λ w. if w.active && (is_some p && is_covered l w.areas c) then current_of w else None) o

-- its areas that cover the cell
abbrev pub covering_in : List Area → Cell → Option Warning → List (List ℕ)
covering_in l c o = filter (λ a. covers l a c) (areas_in o)

-- the pair changes with the places, the areas and the warnings that it has before and after
abbrev pub changed : Option ℕ → Option ℕ → List Area → List Area → Cell → Option Warning → Option Warning → Bool
changed po pn l m c v w =
    (is_some po || is_some pn) && ((is_some v || is_some w) && (differ po pn || (differ (wanted_at po l c v) (wanted_at pn m c w) || names_differ (covering_in l c v) (covering_in m c w))))

-- what a pair has before and after decides whether it changes
pub changed_with : (old new : State) (c : Cell) (n : ℕ) (po pn : Option ℕ) (v w : Option Warning) → place old c ≡ po → place new c ≡ pn → warning_of old.book n ≡ v → warning_of new.book n ≡ w → is_changed old new c n ≡ changed po pn old.areas new.areas c v w
changed_with old new c n po pn v w e f g h =
    rw (there_found n old.book.warnings, there_found n new.book.warnings, areas_found n old.book.warnings, areas_found n new.book.warnings) refl
    ∙ ap (λ o. changed o (place new c) old.areas new.areas c (warning_of old.book n) (warning_of new.book n)) e
    ∙ ap (λ o. changed po o old.areas new.areas c (warning_of old.book n) (warning_of new.book n)) f
    ∙ ap (λ o. changed po pn old.areas new.areas c o (warning_of new.book n)) g
    ∙ ap (λ o. changed po pn old.areas new.areas c v o) h

-- tests of differences

pub differ_itself : (o : Option ℕ) → differ o o ≡ false
differ_itself None = refl
differ_itself (Some x) = ap not (eq-eqb x x refl)

-- where two places differ, there is one
pub differ_some : (o p : Option ℕ) → differ o p ≡ true → (is_some o || is_some p) ≡ true
differ_some None None h = cc
differ_some None (Some y) h = refl
differ_some (Some x) p h = refl

twice : (t : Bool) → (t || t) ≡ t
twice true = refl
twice false = refl

-- areas cover the cell alike where the lists of those that do are one list
covered_alike : (l m : List Area) (c : Cell) (xs ys : List (List ℕ)) → filter (λ a. covers l a c) xs ≡ filter (λ a. covers m a c) ys → is_covered l xs c ≡ is_covered m ys c
covered_alike l m c xs ys e =
    any_full (λ a. covers l a c) xs ∙ ap (λ (zs : List (List ℕ)). is_full zs) e ∙ sym (any_full (λ a. covers m a c) ys)

-- where the place stays

names_decide : (p : Option ℕ) (o : Option ℕ → Option ℕ) (d : Bool) (x y : Option ℕ) → (d ≡ false → x ≡ y) → ((is_some p || is_some p) && (true && (differ p p || (differ x y || d)))) ≡ (is_some p && d)
names_decide p o true x y same = ap (λ t. t && (true && (differ p p || (differ x y || true)))) (twice (is_some p)) ∙ ap (λ t. is_some p && t) (last (differ p p) (differ x y))
  where
    last : (t u : Bool) → (t || (u || true)) ≡ true
    last true u = refl
    last false true = refl
    last false false = refl
names_decide p o false x y same =
    rw (twice (is_some p), differ_itself p, same refl, differ_itself y) refl

-- and what is wanted of the warning too, but for its areas, a pair changes with the areas that cover the cell
pub by_names : (p : Option ℕ) (l m : List Area) (c : Cell) (v w : Warning) → v.active ≡ w.active → current_of v ≡ current_of w → changed p p l m c (Some v) (Some w) ≡ (is_some p && names_differ (covering_in l c (Some v)) (covering_in m c (Some w)))
by_names p l m c v w active serial =
    names_decide p (λ o. o) (names_differ (covering_in l c (Some v)) (covering_in m c (Some w))) (wanted_at p l c (Some v)) (wanted_at p m c (Some w))
    (λ d. let alike = covered_alike l m c v.areas w.areas (same_names (covering_in l c (Some v)) (covering_in m c (Some w)) d) in rw (active, serial, alike) refl)

-- a warning that stays as it is changes nowhere where its areas cover as they did
pub still : (p : Option ℕ) (l m : List Area) (c : Cell) (v : Option Warning) → covering_in l c v ≡ covering_in m c v → changed p p l m c v v ≡ false
still p l m c None e = and_right (is_some p || is_some p) false refl
still p l m c (Some v) e =
    by_names p l m c v v refl refl ∙ ap (λ xs. is_some p && names_differ xs (covering_in m c (Some v))) e ∙ and_right (is_some p) (names_differ (covering_in m c (Some v)) (covering_in m c (Some v))) (names_same (covering_in m c (Some v)))

serial_decides : (p : Option ℕ) (t u k : Bool) (x y : Option ℕ) (d : Bool) → d ≡ false → differ (if t then x else None) (if u then y else None) ≡ true → ((is_some p || is_some p) && (true && (differ p p || (differ (if t && (is_some p && k) then x else None) (if u && (is_some p && k) then y else None) || d)))) ≡ (is_some p && k)
serial_decides None t u k x y d none other = refl
serial_decides (Some b) t u k x y d none other = rw (differ_itself (Some b), none) (step k t u other)
  where
    step : (k t u : Bool) → differ (if t then x else None) (if u then y else None) ≡ true → (differ (if t && k then x else None) (if u && k then y else None) || false) ≡ k
    step true true true h = rw h refl
    step true true false h = rw h refl
    step true false true h = rw h refl
    step true false false h = cc
    step false true true h = refl
    step false true false h = refl
    step false false true h = refl
    step false false false h = refl

-- a warning with the same areas and another wanted serial number changes in each registered cell that they cover
pub by_serial : (p : Option ℕ) (l : List Area) (c : Cell) (v w : Warning) → w.areas ≡ v.areas → differ (if v.active then current_of v else None) (if w.active then current_of w else None) ≡ true → changed p p l l c (Some v) (Some w) ≡ (is_some p && is_covered l v.areas c)
by_serial p l c v w areas other =
    rw areas (serial_decides p v.active w.active (is_covered l v.areas c) (current_of v) (current_of w) (names_differ (covering_in l c (Some v)) (covering_in l c (Some v))) (names_same (covering_in l c (Some v))) other)

-- where the place is another

-- each warning in the book changes in the cell
pub by_place : (po pn : Option ℕ) (l m : List Area) (c : Cell) (v : Option Warning) → differ po pn ≡ true → changed po pn l m c v v ≡ is_some v
by_place po pn l m c v other = rw (differ_some po pn other, other, twice (is_some v)) (last (is_some v))
  where
    last : (t : Bool) → (t && true) ≡ t
    last true = refl
    last false = refl
