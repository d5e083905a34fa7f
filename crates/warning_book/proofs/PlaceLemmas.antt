-- A change at the place of a number is the change of the warning of that number.
use Rattle.std.proofs.Common.{◌≡◌, ℕ, suc, ◌+◌, ◌<◌, ◌≤◌, Bool, true, false, ◌&&◌, ◌||◌, cond, List, [], ◌∷◌, Some, length, get_or, set, refl, sym, ap, ◌∙◌, arith}
use Rattle.std.specs.Prelude.{find}
use Rattle.std.specs.List.{position_or_len, list_any, list_all}
use Rattle.std.proofs.lemmas.Bool.{and_parts, or_parts}
use Rattle.std.proofs.lemmas.List.Recursion.{is_position_or_len}
use Rattle.common.specs.Order.{is_ascending}
use Rattle.warning_book.specs.Book.{has_number, number_lt, is_so, edited}
use Rattle.warning_book.specs.Laws.{none_after}
use Rattle.warning_book.specs.declared.warning.Warning.{Warning}

-- where there is no such warning none is changed
pub unchanged_absent : (n : ℕ) (f : Warning → Warning) (l : List Warning) → list_any (has_number n) l ≡ false → edited n f l ≡ l
unchanged_absent n f [] h = refl
unchanged_absent n f (w ∷ l) h = step (unchanged_absent n f l) (has_number n w) h
  where
    step : (list_any (has_number n) l ≡ false → edited n f l ≡ l) → (t : Bool) → (t || list_any (has_number n) l) ≡ false → cond t (f w) w ∷ edited n f l ≡ w ∷ l
    step rest true e = cc
    step rest false e = ap (λ ws. w ∷ ws) (rest e)

-- the place of the first warning of that number, or past the last
abbrev pub place_in : ℕ → List Warning → ℕ
place_in n [] = 0
place_in n (w ∷ l) = cond (has_number n w) 0 (suc (place_in n l))

pub place_in-position : (n : ℕ) (l : List Warning) → place_in n l ≡ position_or_len (has_number n) l
place_in-position n l = is_position_or_len (place_in n) (has_number n) refl (λ w m. ap (λ k. cond (has_number n w) 0 k) (more (place_in n m))) l
  where
    more : (k : ℕ) → suc k ≡ 1 + k
    more k = omega arith

-- a place past the last is no place
no_place : (n : ℕ) (l : List Warning) → length l ≤ place_in n l → list_any (has_number n) l ≡ false
no_place n [] h = refl
no_place n (w ∷ l) h = step (no_place n l) (has_number n w) h
  where
    step : (length l ≤ place_in n l → list_any (has_number n) l ≡ false) → (t : Bool) → length (w ∷ l) ≤ cond t 0 (suc (place_in n l)) → (t || list_any (has_number n) l) ≡ false
    step rest true e = absurd (omega arith)
    step rest false e = rest (omega arith)

changed_in : (n : ℕ) (f : Warning → Warning) (l : List Warning) (d : Warning) → is_ascending number_lt l ≡ true → place_in n l < length l → set l (place_in n l) (f (get_or l (place_in n l) d)) ≡ edited n f l
changed_in n f [] d o h = absurd (omega arith)
changed_in n f (w ∷ l) d o h = step (changed_in n f l d) (has_number n w) refl (and_parts (list_all (number_lt w) l) (is_ascending number_lt l) o) h
  where
    step : (is_ascending number_lt l ≡ true → place_in n l < length l → set l (place_in n l) (f (get_or l (place_in n l) d)) ≡ edited n f l) → (t : Bool) → has_number n w ≡ t → (list_all (number_lt w) l ≡ true) × (is_ascending number_lt l ≡ true) → cond t 0 (suc (place_in n l)) < length (w ∷ l) → set (w ∷ l) (cond t 0 (suc (place_in n l))) (f (get_or (w ∷ l) (cond t 0 (suc (place_in n l))) d)) ≡ cond t (f w) w ∷ edited n f l
    step rest true e o h = ap (λ ws. f w ∷ ws) (sym (unchanged_absent n f l (none_after n w l e o.0)))
    step rest false e o h = ap (λ ws. w ∷ ws) (rest o.1 (omega arith))

-- the warning w stands at the place, and v is what f makes of it
pub changed_at_place : (n : ℕ) (f : Warning → Warning) (l : List Warning) (p : ℕ) (w v : Warning) → is_ascending number_lt l ≡ true → p ≡ position_or_len (has_number n) l → p < length l → w ≡ get_or l p w → v ≡ f w → set l p v ≡ edited n f l
changed_at_place n f l p w v o e h g k =
    let place : p ≡ place_in n l = e ∙ sym (place_in-position n l) in
    let within : place_in n l < length l = omega arith in
    ap (λ (x : Warning). set l p x) k
    ∙ ap (λ (x : Warning). set l p (f x)) g
    ∙ ap (λ (m : ℕ). set l m (f (get_or l m w))) place
    ∙ changed_in n f l w o within

-- and where there is no such place nothing is changed
pub unchanged_past : (n : ℕ) (f : Warning → Warning) (l : List Warning) (p : ℕ) → p ≡ position_or_len (has_number n) l → length l ≤ p → l ≡ edited n f l
unchanged_past n f l p e h =
    let place : p ≡ place_in n l = e ∙ sym (place_in-position n l) in
    sym (unchanged_absent n f l (no_place n l (omega arith)))

found_in : (n : ℕ) (l : List Warning) (d : Warning) → place_in n l < length l → find (has_number n) l ≡ Some (get_or l (place_in n l) d)
found_in n [] d h = absurd (omega arith)
found_in n (w ∷ l) d h = step (found_in n l d) (has_number n w) h
  where
    step : (place_in n l < length l → find (has_number n) l ≡ Some (get_or l (place_in n l) d)) → (t : Bool) → cond t 0 (suc (place_in n l)) < length (w ∷ l) → cond t (Some w) (find (has_number n) l) ≡ Some (get_or (w ∷ l) (cond t 0 (suc (place_in n l))) d)
    step rest true e = refl
    step rest false e = rest (omega arith)

-- the warning that stands at the place is the one of that number
pub found_at_place : (n : ℕ) (l : List Warning) (p : ℕ) (w : Warning) → p ≡ position_or_len (has_number n) l → p < length l → w ≡ get_or l p w → find (has_number n) l ≡ Some w
found_at_place n l p w e h g =
    let place : p ≡ place_in n l = e ∙ sym (place_in-position n l) in
    let within : place_in n l < length l = omega arith in
    found_in n l w within ∙ ap (λ (m : ℕ). Some (get_or l m w)) (sym place) ∙ ap (λ (x : Warning). Some x) (sym g)

-- what no warning of that number is, the one that stands at the place is not
pub not_so_at_place : (n : ℕ) (f : Warning → Bool) (l : List Warning) (p : ℕ) (w : Warning) → p ≡ position_or_len (has_number n) l → p < length l → w ≡ get_or l p w → is_so n f l ≡ false → f w ≡ false
not_so_at_place n f l p w e h g so =
    let place : p ≡ place_in n l = e ∙ sym (place_in-position n l) in
    let within : place_in n l < length l = omega arith in
    ap f (g ∙ ap (λ (m : ℕ). get_or l m w) place) ∙ not_in l within so
  where
    not_in : (m : List Warning) → place_in n m < length m → is_so n f m ≡ false → f (get_or m (place_in n m) w) ≡ false
    not_in [] h so = absurd (omega arith)
    not_in (v ∷ m) h so = step (not_in m) (has_number n v) h so
      where
        step : (place_in n m < length m → is_so n f m ≡ false → f (get_or m (place_in n m) w) ≡ false) → (t : Bool) → cond t 0 (suc (place_in n m)) < length (v ∷ m) → ((t && f v) || is_so n f m) ≡ false → f (get_or (v ∷ m) (cond t 0 (suc (place_in n m))) w) ≡ false
        step rest true h so = (or_parts (f v) (is_so n f m) so).0
        step rest false h so = rest (omega arith) so

-- where a warning of that number is, the place is one of the list
pub has_place : {P : Type 0} (n : ℕ) (l : List Warning) (p : ℕ) → p ≡ position_or_len (has_number n) l → length l ≤ p → list_any (has_number n) l ≡ true → P
has_place n l p e h there =
    let place : p ≡ place_in n l = e ∙ sym (place_in-position n l) in
    let none : list_any (has_number n) l ≡ false = no_place n l (omega arith) in
    absurd (let no : true ≡ false = sym there ∙ none in cc)
