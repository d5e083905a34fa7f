-- Which areas have a selector, after an edit of what a map keeps for it.
use Rattle.std.proofs.Common.{◌≡◌, ℕ, Bool, true, false, cond, ◌&&◌, ◌||◌, not, List, [], ◌∷◌, Option, Some, None, refl, sym, ap, ◌∙◌, arith}
use Rattle.std.specs.Prelude.{bytes_eq}
use Rattle.std.specs.BTreeMap.{is_at}
use Rattle.std.specs.List.{filter}
use Rattle.std.specs.Map.{lookup, set_value}
use Rattle.std.specs.Option.{unwrap_or}
use Rattle.std.proofs.lemmas.Bool.Decides.{nat_tests}
use Rattle.std.proofs.lemmas.Grind.{common_steps}
use Rattle.std.proofs.lemmas.Slice.Eq.{bytes_eq-Decides}
use Rattle.common.specs.OnceLaws.{any_without_key}
use Rattle.areas.specs.Areas.{is_among}
use Rattle.areas.specs.Equality.{selector_decides}
use Rattle.areas.specs.Holders.{key_of, key_cmp, has_name, names_at, holds, IsWithHolder, IsWithoutHolder}
use Rattle.areas.specs.Selector.{selector_eq}
use Rattle.areas.specs.declared.selector.Selector.{Selector}
use Rattle.areas.specs.declared.selector.Selector.TheVariants.{Cell, Lac}
use Rattle.areas.specs.declared.selector_key.SelectorKey.{SelectorKey}

-- the map has these names at the key of the selector, or none, and at other keys what it had
abbrev pub IsSetAt : Selector → Option (List (List ℕ)) → List (SelectorKey × List (List ℕ)) → List (SelectorKey × List (List ℕ)) → Type 0
IsSetAt s w old new = (q : SelectorKey) → lookup (is_at (key_cmp q)) new ≡ cond (is_at (key_cmp (key_of s)) q) w (lookup (is_at (key_cmp q)) old)

-- the keys of two selectors are one where the selectors are
at_key : (s t : Selector) → is_at (key_cmp (key_of s)) (key_of t) ≡ selector_eq s t
at_key (Cell c) (Cell d) = grind (arith, nat_tests, common_steps)
at_key (Cell c) (Lac l) = grind (arith, nat_tests, common_steps)
at_key (Lac k) (Cell d) = grind (arith, nat_tests, common_steps)
at_key (Lac k) (Lac l) = grind (arith, nat_tests, common_steps)

names_set : (s : Selector) (w : Option (List (List ℕ))) (old new : List (SelectorKey × List (List ℕ))) → IsSetAt s w old new → (t : Selector) → names_at new t ≡ cond (selector_eq s t) (unwrap_or w []) (names_at old t)
names_set s w old new h t =
    ap (λ o. unwrap_or o []) (h (key_of t)) ∙ ap (λ p. unwrap_or (cond p w (lookup (is_at (key_cmp (key_of t))) old)) []) (at_key s t) ∙ step (selector_eq s t)
  where
    step : (p : Bool) → unwrap_or (cond p w (lookup (is_at (key_cmp (key_of t))) old)) [] ≡ cond p (unwrap_or w []) (names_at old t)
    step true = refl
    step false = refl

-- where the names of the selector have one more, that area has the selector
pub with_holder : (s : Selector) (a : List ℕ) (names : List (List ℕ)) (old new : List (SelectorKey × List (List ℕ))) → ((b : List ℕ) → has_name b names ≡ (bytes_eq a b || holds old s b)) → IsSetAt s (Some names) old new → IsWithHolder old new s a
with_holder s a names old new more set t b = ap (has_name b) (names_set s (Some names) old new set t) ∙ step (selector_eq s t) refl
  where
    step : (p : Bool) → selector_eq s t ≡ p → has_name b (cond p names (names_at old t)) ≡ ((p && bytes_eq a b) || holds old t b)
    step true e = more b ∙ ap (λ u. bytes_eq a b || holds old u b) ((selector_decides s t).0 e)
    step false e = refl

-- where they are without the area, it does not have the selector
pub without_holder : (s : Selector) (a : List ℕ) (names : List (List ℕ)) (old new : List (SelectorKey × List (List ℕ))) → names ≡ filter (λ b. not (bytes_eq b a)) (names_at old s) → IsSetAt s (Some names) old new → IsWithoutHolder old new s a
without_holder s a names old new less set t b = ap (has_name b) (names_set s (Some names) old new set t) ∙ step (selector_eq s t) refl
  where
    step : (p : Bool) → selector_eq s t ≡ p → has_name b (cond p names (names_at old t)) ≡ (not (p && bytes_eq a b) && holds old t b)
    step true e =
        ap (has_name b) less ∙ any_without_key bytes_eq bytes_eq-Decides (λ (c : List ℕ). c) a b (names_at old s) ∙ ap (λ u. not (bytes_eq a b) && holds old u b) ((selector_decides s t).0 e)
    step false e = refl

-- they are these names
pub names_are : (s : Selector) (names : List (List ℕ)) (old new : List (SelectorKey × List (List ℕ))) → IsSetAt s (Some names) old new → names_at new s ≡ names
names_are s names old new set = names_set s (Some names) old new set s ∙ ap (λ p. cond p names (names_at old s)) ((selector_decides s s).1 refl)

-- where none are left, taking the selector out changes nothing
pub none_taken : (s : Selector) (a : List ℕ) (old mid new : List (SelectorKey × List (List ℕ))) → IsWithoutHolder old mid s a → names_at mid s ≡ [] → IsSetAt s None mid new → IsWithoutHolder old new s a
none_taken s a old mid new less none set t b = ap (has_name b) (names_set s None mid new set t) ∙ step (selector_eq s t) refl ∙ less t b
  where
    step : (p : Bool) → selector_eq s t ≡ p → has_name b (cond p [] (names_at mid t)) ≡ holds mid t b
    step true e = ap (has_name b) (sym none) ∙ ap (λ u. holds mid u b) ((selector_decides s t).0 e)
    step false e = refl

-- where no area has the selector, none is taken from it
pub without_none : (s : Selector) (a : List ℕ) (old : List (SelectorKey × List (List ℕ))) → names_at old s ≡ [] → IsWithoutHolder old old s a
without_none s a old none t b = step (selector_eq s t) refl
  where
    neither : (p h : Bool) → h ≡ false → h ≡ (not p && h)
    neither true h e = e
    neither false h e = refl

    step : (p : Bool) → selector_eq s t ≡ p → holds old t b ≡ (not (p && bytes_eq a b) && holds old t b)
    step true e = neither (bytes_eq a b) (holds old t b) (ap (λ u. holds old u b) (sym ((selector_decides s t).0 e)) ∙ ap (has_name b) none)
    step false e = refl

-- where nothing is found the names are none
pub names_absent : (s : Selector) (old : List (SelectorKey × List (List ℕ))) → lookup (is_at (key_cmp (key_of s))) old ≡ None → names_at old s ≡ []
names_absent s old h = ap (λ o. unwrap_or o []) h

-- and where they are found, they are those
pub names_found : (s : Selector) (names : List (List ℕ)) (old : List (SelectorKey × List (List ℕ))) → lookup (is_at (key_cmp (key_of s))) old ≡ Some names → names_at old s ≡ names
names_found s names old h = ap (λ o. unwrap_or o []) h

-- what is written where it stood already changes nothing
pub set_same : {K X : Type 0} (test : K → Bool) (es : List (K × X)) (w : X) → lookup test es ≡ Some w → set_value test es w ≡ es
set_same test [] w h = refl
set_same {K} {X} test (e ∷ es) w h = step (test e.0) (set_same test es w) h
  where
    inside : (x y : X) → Some x ≡ Some y → y ≡ x
    inside x y g = cc

    step : (t : Bool) → (lookup test es ≡ Some w → set_value test es w ≡ es) → cond t (Some e.1) (lookup test es) ≡ Some w → cond t ((e.0, w) ∷ es) (e ∷ set_value test es w) ≡ e ∷ es
    step true rest g = ap (λ x. (e.0, x) ∷ es) (inside e.1 w g)
    step false rest g = ap (λ xs. e ∷ xs) (rest g)

-- Names one after the other.

one_more : (e d f : Bool) → (d || (e || f)) ≡ ((e || d) || f)
one_more true true f = refl
one_more true false f = refl
one_more false d f = refl

-- one name further
pub names_next : (a : List ℕ) (rest old new all first : List (List ℕ)) → ((b : List ℕ) → has_name b new ≡ (bytes_eq a b || has_name b old)) → ((b : List ℕ) → (has_name b (a ∷ rest) || has_name b old) ≡ (has_name b all || has_name b first)) → (b : List ℕ) → (has_name b rest || has_name b new) ≡ (has_name b all || has_name b first)
names_next a rest old new all first more before b = ap (λ t. has_name b rest || t) (more b) ∙ one_more (bytes_eq a b) (has_name b rest) (has_name b old) ∙ before b

one_less : (q d e h : Bool) → (not (d && e) && (not (q && e) && h)) ≡ (not ((q || d) && e) && h)
one_less true true true h = refl
one_less true true false h = refl
one_less true false true h = refl
one_less true false false h = refl
one_less false true true h = refl
one_less false true false h = refl
one_less false false e h = refl

-- one selector further
pub selectors_next : (s : Selector) (a : List ℕ) (rest : List Selector) (old new : List (SelectorKey × List (List ℕ))) (all : Selector → List ℕ → Bool) → IsWithoutHolder old new s a → ((t : Selector) (b : List ℕ) → (not (is_among t (s ∷ rest) && bytes_eq a b) && holds old t b) ≡ all t b) → (t : Selector) (b : List ℕ) → (not (is_among t rest && bytes_eq a b) && holds new t b) ≡ all t b
selectors_next s a rest old new all less before t b = ap (λ p. not (is_among t rest && bytes_eq a b) && p) (less t b) ∙ one_less (selector_eq s t) (is_among t rest) (bytes_eq a b) (holds old t b) ∙ before t b
