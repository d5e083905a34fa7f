-- Two lists of the same things, each once, are of the same length.
use Rattle.std.proofs.Common.{◌≡◌, ◌+◌, Bool, true, false, ◌&&◌, ◌||◌, not, List, [], ◌∷◌, Option, Some, None, length, filter, refl, sym, ◌∙◌, ap, arith}
use Rattle.std.proofs.lemmas.Bool.{and_parts, not-true, or_right}
use Rattle.std.specs.List.{list_any}
use Rattle.common.specs.OnceLaws.{DecidesAll, turned, any_turned, any_without_key, once_filter, length_without_same}
use Rattle.common.specs.Order.{each_once}
use Rattle.centre_events.specs.Base.{Base, empty_base}
use Rattle.centre_events.specs.Past.{Past, From, After, IsUnfolded, by_edit, with_new, named}
use Rattle.common.specs.Sums.{one, count_of}
use Rattle.coverage_plan.specs.declared.edit.Edit.{Edit}

-- what is among those that are not x
among_rest : {A : Type 0} (same : A → A → Bool) → DecidesAll same → (x z : A) (ys : List A) → list_any (same z) (filter (λ y. not (same y x)) ys) ≡ (not (same x z) && list_any (same z) ys)
among_rest same d x z ys =
    any_turned same d z (filter (λ y. not (same y x)) ys) ∙ any_without_key same d (λ y. y) x z ys ∙ ap (λ t. not (same x z) && t) (sym (any_turned same d z ys))

-- a count is the length of a list of the things that count, each once
pub same_count : {A : Type 0} (same : A → A → Bool) → DecidesAll same → (p : A → Bool) (xs ys : List A) → each_once same xs ≡ true → each_once same ys ≡ true → ((z : A) → list_any (same z) ys ≡ (p z && list_any (same z) xs)) → count_of p xs ≡ length ys
same_count same d p [] [] once other h = refl
same_count same d p [] (y ∷ ys) once other h = absurd (no (same y y) (list_any (same y) ys) (p y) ((d y y).1 refl) (h y))
  where
    no : (a b c : Bool) → a ≡ true → (a || b) ≡ (c && false) → ⊥
    no true b true e g = cc
    no true b false e g = cc
    no false b c e g = cc
same_count {A} same d p (x ∷ xs) ys once other h = step (same_count same d p xs) (p x) refl
  where
    alone : list_any (same x) xs ≡ false
    alone = not-true (list_any (same x) xs) (and_parts (not (list_any (same x) xs)) (each_once same xs) once).0

    once_rest : each_once same xs ≡ true
    once_rest = (and_parts (not (list_any (same x) xs)) (each_once same xs) once).1

    fails : p x ≡ false → (z : A) → list_any (same z) ys ≡ (p z && list_any (same z) xs)
    fails e z = h z ∙ at (same z x) refl
      where
        at : (t : Bool) → same z x ≡ t → (p z && (same z x || list_any (same z) xs)) ≡ (p z && list_any (same z) xs)
        at true f =
            let off : p z ≡ false = ap p ((d z x).0 f) ∙ e in
            ap (λ t. t && (same z x || list_any (same z) xs)) off ∙ sym (ap (λ t. t && list_any (same z) xs) off)
        at false f = ap (λ t. p z && (t || list_any (same z) xs)) f

    passes : p x ≡ true → (z : A) → list_any (same z) (filter (λ y. not (same y x)) ys) ≡ (p z && list_any (same z) xs)
    passes e z = among_rest same d x z ys ∙ ap (λ t. not (same x z) && t) (h z) ∙ at (same x z) refl
      where
        none : (a : Bool) → false ≡ (a && false)
        none true = refl
        none false = refl

        at : (t : Bool) → same x z ≡ t → (not t && (p z && (same z x || list_any (same z) xs))) ≡ (p z && list_any (same z) xs)
        at true f =
            let gone : list_any (same z) xs ≡ false = ap (λ k. list_any (same k) xs) (sym ((d x z).0 f)) ∙ alone in
            rw gone (none (p z))
        at false f = ap (λ t. p z && (t || list_any (same z) xs)) (turned same d z x ∙ f)

    there : p x ≡ true → list_any (same x) ys ≡ true
    there e = h x ∙ rw (e, (d x x).1 refl) refl

    step : ((zs : List A) → each_once same xs ≡ true → each_once same zs ≡ true → ((z : A) → list_any (same z) zs ≡ (p z && list_any (same z) xs)) → count_of p xs ≡ length zs) → (t : Bool) → p x ≡ t → one (p x) + count_of p xs ≡ length ys
    step rest false e =
        let more : count_of p xs ≡ length ys = rest ys once_rest other (fails e) in
        let here : one (p x) ≡ 0 = ap one e in
        omega arith
    step rest true e =
        let more : count_of p xs ≡ length (filter (λ y. not (same y x)) ys) = rest (filter (λ y. not (same y x)) ys) once_rest (once_filter same (λ y. not (same y x)) ys other) (passes e) in
        let here : one (p x) ≡ 1 = ap one e in
        let less : length ys ≡ length (filter (λ y. not (same y x)) ys) + 1 = length_without_same same d x ys other (sym (any_turned same d x ys) ∙ there e) in
        omega arith

once_with : {A : Type 0} (same : A → A → Bool) (o : Option A) (xs : List A) → each_once same xs ≡ true → each_once same (with_new same o xs) ≡ true
once_with same None xs h = h
once_with same (Some x) xs h = step (list_any (same x) xs) refl
  where
    step : (t : Bool) → list_any (same x) xs ≡ t → each_once same (with_new same (Some x) xs) ≡ true
    step true e = rw e h
    step false e = rw (e, e) h

-- the things that a past names stand there once, where nothing was folded into its base
pub named_once : {A : Type 0} (same : A → A → Bool) (f : Edit → Option A) (first : Base → List A) → first empty_base ≡ [] → (past : Past) → IsUnfolded past → each_once same (named same f first past) ≡ true
named_once same f first none (From base) unfolded = rw (unfolded, none) refl
named_once same f first none (After e before) unfolded = once_with same (by_edit f e.event) (named same f first before) (named_once same f first none before unfolded)

-- what was there stays
pub among_more : {A : Type 0} (same : A → A → Bool) (z : A) (o : Option A) (xs : List A) → list_any (same z) xs ≡ true → list_any (same z) (with_new same o xs) ≡ true
among_more same z None xs h = h
among_more same z (Some x) xs h = step (list_any (same x) xs) refl
  where
    step : (t : Bool) → list_any (same x) xs ≡ t → list_any (same z) (with_new same (Some x) xs) ≡ true
    step true e = rw e h
    step false e = rw e (or_right (same z x) (list_any (same z) xs) h)

-- and what comes is there
pub among_new : {A : Type 0} (same : A → A → Bool) → DecidesAll same → (z x : A) (xs : List A) → same x z ≡ true → list_any (same z) (with_new same (Some x) xs) ≡ true
among_new same d z x xs h = step (list_any (same x) xs) refl
  where
    step : (t : Bool) → list_any (same x) xs ≡ t → list_any (same z) (with_new same (Some x) xs) ≡ true
    step true e = rw e (ap (λ k. list_any (same k) xs) (sym ((d x z).0 h)) ∙ e)
    step false e = rw e (ap (λ t. t || list_any (same z) xs) (turned same d z x ∙ h))

-- what is so is among those named, so both together are so just where it is
pub both_or_it : (it known : Bool) → (it ≡ true → known ≡ true) → it ≡ (it && known)
both_or_it true known h = sym (h refl)
both_or_it false known h = refl
