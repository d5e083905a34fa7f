-- What is read of a line from what is kept is what the past says of it.
use Rattle.std.proofs.Common.{◌≡◌, ℕ, ◌+◌, ◌<◌, Bool, ◌&&◌, ◌||◌, List, [], ◌∷◌, ◌++◌, Option, Some, None, filter, cond, refl, sym, ◌∙◌, ap, not, nat_eq, length, suc, take, get_or, true, false, arith}
use Rattle.std.proofs.lemmas.List.{append-nil, take_more}
use Rattle.std.proofs.lemmas.List.Elements.{filter-append}
use Rattle.std.specs.Prelude.{if◌then◌else◌}
use Rattle.std.specs.List.{list_any}
use Rattle.std.proofs.lemmas.Bool.Decides.{nat_tests}
use Rattle.areas.specs.Areas as kept
use Rattle.areas.specs.declared.area.Area.{Area}
use Rattle.areas.specs.declared.selector.Selector.TheVariants as selector
use Rattle.cell_register.specs.Register as register
use Rattle.cell_register.specs.Register.{place_in, is_place}
use Rattle.common.specs.declared.cell.Cell.{Cell}
use Rattle.mirror.specs.declared.line.Line.{Line}
use Rattle.warning_book.specs.Book.{current_of}
use Rattle.warning_book.specs.declared.warning.Warning.{Warning}
use Rattle.centre_events.specs.Cover.{has_selector, covers}
use Rattle.centre_events.specs.Facts.{IsLineOf}
use Rattle.centre_past.specs.Facts.{facts_of}
use Rattle.centre_events.specs.Kept.{IsRegisterOf, AreAreasOf}
use Rattle.centre_events.specs.Past.{Past}
use Rattle.centre_events.specs.Places.{place}
use Rattle.centre_events.specs.Plan.{wants, wanted}
use Rattle.centre_events.specs.Warnings.{kind_in}
use Rattle.centre_events.specs.Down.{is_down}
use Rattle.centre_past.specs.State.{wants_in, wanted_in, facts_from}

pub filter_pointwise : {A : Type 0} (p q : A → Bool) → ((x : A) → p x ≡ q x) → (xs : List A) → filter p xs ≡ filter q xs
filter_pointwise p q h [] = refl
filter_pointwise p q h (x ∷ xs) = ap (λ t. cond t (x ∷ filter p xs) (filter p xs)) (h x) ∙ ap (λ l. cond (q x) (x ∷ l) l) (filter_pointwise p q h xs)

pub any_pointwise : {A : Type 0} (p q : A → Bool) → ((x : A) → p x ≡ q x) → (xs : List A) → list_any p xs ≡ list_any q xs
any_pointwise p q h [] = refl
any_pointwise p q h (x ∷ xs) = ap (λ t. t || list_any p xs) (h x) ∙ ap (λ t. q x || t) (any_pointwise p q h xs)

pub covers_same : (past : Past) (l : List Area) → AreAreasOf past l → (c : Cell) (a : List ℕ) → kept.covers l a c ≡ covers past a c
covers_same past l selected c a =
    ap (λ t. t || kept.has_selector l a (selector.Lac c.lac)) (selected.selectors a (selector.Cell c))
    ∙ ap (λ t. has_selector past a (selector.Cell c) || t) (selected.selectors a (selector.Lac c.lac))

here_same : (past : Past) (r : register.State) → IsRegisterOf past r → (b : ℕ) (c : Cell) → is_place (place_in r c) b ≡ is_place (place past c) b
here_same past r registered b c = ap (λ o. is_place o b) (registered.places c)

wants_same : (past : Past) (r : register.State) (l : List Area) → IsRegisterOf past r → AreAreasOf past l → (b : ℕ) (w : Warning) (c : Cell) → wants_in r l b w c ≡ wants past b w c
wants_same past r l registered selected b w c =
    ap (λ t. w.active && (t && list_any (λ a. kept.covers l a c) w.areas)) (here_same past r registered b c)
    ∙ ap (λ t. w.active && (is_place (place past c) b && t)) (any_pointwise (λ a. kept.covers l a c) (λ a. covers past a c) (covers_same past l selected c) w.areas)

wanted_same : (past : Past) (r : register.State) (l : List Area) → IsRegisterOf past r → AreAreasOf past l → (b : ℕ) (w : Warning) (c : Cell) → wanted_in r l b w c ≡ wanted past b w c
wanted_same past r l registered selected b w c = ap (λ t. if t then current_of w else None) (wants_same past r l registered selected b w c)

pub facts_same : (past : Past) (r : register.State) (l : List Area) (down : Bool) (b : ℕ) (c : Cell) (line : Line) (o : Option Warning) → IsRegisterOf past r → AreAreasOf past l → down ≡ is_down past (kind_in o) b c → IsLineOf past b c line o → facts_from r l down b c line o ≡ facts_of past b c o
facts_same past r l down b c line None registered selected fallen is =
    rw (fallen, here_same past r registered b c) refl
facts_same past r l down b c line (Some w) registered selected fallen is =
    rw (fallen, is, wanted_same past r l registered selected b w c, here_same past r registered b c, filter_pointwise (λ a. kept.covers l a c) (λ a. covers past a c) (covers_same past l selected c) w.areas) refl

-- what is wanted there, by the areas that cover the cell
pub wanted_there : (r : register.State) (l : List Area) (b : ℕ) (w : Warning) (c : Cell) (names : List (List ℕ)) → names ≡ filter (λ a. kept.covers l a c) w.areas → (if w.active && (is_place (place_in r c) b && not (nat_eq (length names) 0)) then current_of w else None) ≡ wanted_in r l b w c
wanted_there r l b w c names are =
    ap (λ t. if w.active && (is_place (place_in r c) b && t) then current_of w else None) (ap (λ xs. not (nat_eq (length xs) 0)) are ∙ some w.areas)
  where
    more : (n : ℕ) → nat_eq (suc n) 0 ≡ false
    more n = grind (arith, nat_tests)

    some : (xs : List (List ℕ)) → not (nat_eq (length (filter (λ a. kept.covers l a c) xs)) 0) ≡ list_any (λ a. kept.covers l a c) xs
    some [] = refl
    some (x ∷ xs) = step (kept.covers l x c) (some xs)
      where
        step : (t : Bool) → not (nat_eq (length (filter (λ a. kept.covers l a c) xs)) 0) ≡ list_any (λ a. kept.covers l a c) xs → not (nat_eq (length (cond t (x ∷ filter (λ a. kept.covers l a c) xs) (filter (λ a. kept.covers l a c) xs))) 0) ≡ (t || list_any (λ a. kept.covers l a c) xs)
        step true rest = ap not (more (length (filter (λ a. kept.covers l a c) xs)))
        step false rest = rest

-- Of names and others that were compared one by one, so many of the others are those of the first names that pass.

filter_more : (f : List ℕ → Bool) (names : List (List ℕ)) (i : ℕ) (x : List ℕ) → x ≡ get_or names i x → i < length names → filter f (take (i + 1) names) ≡ filter f (take i names) ++ (if f x then x ∷ [] else [])
filter_more f names i x is h =
    ap (filter f) (take_more names i x h ∙ ap (λ y. take i names ++ y ∷ []) (sym is)) ∙ filter-append f (take i names) (x ∷ [])

pub passing_more : (f : List ℕ → Bool) (names others : List (List ℕ)) (i count : ℕ) (x y : List ℕ) → x ≡ get_or names i x → i < length names → f x ≡ true → y ≡ get_or others count y → count < length others → y ≡ x → take count others ≡ filter f (take i names) → take (count + 1) others ≡ filter f (take (i + 1) names)
passing_more f names others i count x y is h passes at there same before =
    take_more others count y there ∙ ap (λ z. take count others ++ z ∷ []) (sym at ∙ same) ∙ ap (λ xs. xs ++ x ∷ []) before
    ∙ ap (λ t. filter f (take i names) ++ (if t then x ∷ [] else [])) (sym passes) ∙ sym (filter_more f names i x is h)

pub passing_same : (f : List ℕ → Bool) (names others : List (List ℕ)) (i count : ℕ) (x : List ℕ) → x ≡ get_or names i x → i < length names → f x ≡ false → take count others ≡ filter f (take i names) → take count others ≡ filter f (take (i + 1) names)
passing_same f names others i count x is h fails before =
    before ∙ sym (append-nil (filter f (take i names))) ∙ ap (λ t. filter f (take i names) ++ (if t then x ∷ [] else [])) (sym fails) ∙ sym (filter_more f names i x is h)
