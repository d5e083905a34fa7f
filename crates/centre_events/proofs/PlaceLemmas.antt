-- The place of the last entry that passes, as entries come, and the entry that stands there.
use Rattle.std.proofs.Common.{◌≡◌, ℕ, suc, ◌+◌, ◌-◌, ◌<◌, ◌≤◌, Bool, true, false, ◌||◌, cond, nat_lt, List, [], ◌∷◌, Some, None, length, get_or, take, drop, reverse, refl, sym, ap, ◌∙◌, arith}
use Rattle.std.specs.Prelude.{find, slice_get}
use Rattle.std.specs.List.{list_any}
use Rattle.std.proofs.lemmas.Bool.Decides.{nat_tests}
use Rattle.std.proofs.lemmas.Grind.{common_steps}
use Rattle.std.proofs.lemmas.List.{drop_more, get_or-reverse, length-drop, length-reverse, length-take-le, reverse-append}
use Rattle.std.proofs.lemmas.List.Folds.{list_any-append}
use Rattle.std.proofs.lemmas.Option.{slice_get-get_or, slice_get_past}
use Rattle.centre_events.specs.LastPlaces.{last_place}
use Rattle.centre_events.proofs.PastLemmas.{past_more}

module _ {E : Type 0} (p : E → Bool) where
  -- no place is past the end
  pub within : (xs : List E) → last_place p xs ≤ length xs
  within [] = omega arith
  within (x ∷ xs) = step (p x) (within xs)
    where
      step : (t : Bool) → last_place p xs ≤ length xs → cond t (length xs + 1) (last_place p xs) ≤ length (x ∷ xs)
      step true h = omega arith
      step false h = omega (arith, h)

  -- of the first entries, of which the next has the next place
  pub within_first : (xs : List E) (i : ℕ) → i ≤ length xs → last_place p (reverse (take i xs)) ≤ i
  within_first xs i h = omega (arith, within (reverse (take i xs)), length-reverse (take i xs), length-take-le i xs h)

  pub place_more : (xs : List E) (i : ℕ) (d : E) → i < length xs → last_place p (reverse (take (i + 1) xs)) ≡ cond (p (get_or xs i d)) (i + 1) (last_place p (reverse (take i xs)))
  place_more xs i d h =
      ap (last_place p) (past_more xs i d h) ∙ ap (λ n. cond (p (get_or xs i d)) (n + 1) (last_place p (reverse (take i xs)))) (length-reverse (take i xs) ∙ length-take-le i xs (omega (arith, h)))

  -- of the last entries, of which the one before them has the next place
  pub within_last : (xs : List E) (i : ℕ) → i ≤ length xs → last_place p (drop (length xs - i) xs) ≤ i
  within_last xs i h = omega (arith, within (drop (length xs - i) xs), length-drop (length xs - i) xs, h)

  pub place_before : (xs : List E) (i : ℕ) (d : E) → i < length xs → last_place p (drop (length xs - (i + 1)) xs) ≡ cond (p (get_or xs (length xs - 1 - i) d)) (i + 1) (last_place p (drop (length xs - i) xs))
  place_before xs i d h =
      let at : length xs - (i + 1) ≡ length xs - 1 - i = omega (arith, h) in
      let next : length xs - 1 - i + 1 ≡ length xs - i = omega (arith, h) in
      let left : length (drop (length xs - i) xs) ≡ i = omega (arith, length-drop (length xs - i) xs, h) in
      ap (λ n. last_place p (drop n xs)) at ∙ ap (last_place p) (drop_more xs (length xs - 1 - i) d (omega (arith, h))) ∙ ap (λ n. cond (p (get_or xs (length xs - 1 - i) d)) (length (drop n xs) + 1) (last_place p (drop n xs))) next
      ∙ ap (λ n. cond (p (get_or xs (length xs - 1 - i) d)) (n + 1) (last_place p (drop (length xs - i) xs))) left

  -- counted from the end, the first that passes stands there
  pub found_there : (xs : List E) → slice_get xs (length xs - last_place p xs) ≡ find p xs
  found_there [] = refl
  found_there (x ∷ xs) = step (p x) (found_there xs)
    where
      step : (t : Bool) → slice_get xs (length xs - last_place p xs) ≡ find p xs → slice_get (x ∷ xs) (length (x ∷ xs) - cond t (length xs + 1) (last_place p xs)) ≡ cond t (Some x) (find p xs)
      step true h = let first : length (x ∷ xs) - (length xs + 1) ≡ 0 = omega arith in ap (slice_get (x ∷ xs)) first
      step false h = let later : length (x ∷ xs) - last_place p xs ≡ suc (length xs - last_place p xs) = omega (arith, within xs) in ap (slice_get (x ∷ xs)) later ∙ h

  -- counted from the front, the last that passes does
  pub found_turned : (xs : List E) (n : ℕ) → last_place p (reverse xs) ≡ n → 0 < n → slice_get xs (n - 1) ≡ find p (reverse xs)
  found_turned [] n h some = absurd (omega (arith, h, some))
  found_turned (x ∷ xs) n h some =
      let ys = x ∷ xs in
      let all = length-reverse ys in
      let most : n ≤ length ys = omega (arith, within (reverse ys), all, h) in
      let i = length ys - n in
      let place : i ≡ length (reverse ys) - last_place p (reverse ys) = omega (arith, all, h) in
      let at : n - 1 ≡ length ys - 1 - i = omega (arith, most, some) in
      slice_get-get_or ys (n - 1) x (omega (arith, most, some)) ∙ ap (λ k. Some (get_or ys k x)) at ∙ ap Some (sym (get_or-reverse ys i x (omega (arith, most, some)))) ∙ sym (slice_get-get_or (reverse ys) i x (omega (arith, most, some, all)))
      ∙ ap (slice_get (reverse ys)) place ∙ found_there (reverse ys)

  -- where there is no place none passes
  pub none_turned : (xs : List E) → last_place p (reverse xs) ≡ 0 → find p (reverse xs) ≡ None
  none_turned xs h = sym (found_there (reverse xs)) ∙ slice_get_past (reverse xs) (length (reverse xs) - last_place p (reverse xs)) (omega (arith, h))

  any_turned : (xs : List E) → list_any p (reverse xs) ≡ list_any p xs
  any_turned [] = refl
  any_turned (x ∷ xs) = ap (list_any p) (reverse-append (x ∷ []) xs) ∙ list_any-append p (reverse xs) (x ∷ []) ∙ ap (λ t. t || (p x || false)) (any_turned xs) ∙ swapped (p x) (list_any p xs)
    where
      swapped : (t u : Bool) → (u || (t || false)) ≡ (t || u)
      swapped true true = refl
      swapped true false = refl
      swapped false true = refl
      swapped false false = refl

  any_there : (xs : List E) → nat_lt 0 (last_place p xs) ≡ list_any p xs
  any_there [] = refl
  any_there (x ∷ xs) = step (p x) (any_there xs)
    where
      step : (t : Bool) → nat_lt 0 (last_place p xs) ≡ list_any p xs → nat_lt 0 (cond t (length xs + 1) (last_place p xs)) ≡ (t || list_any p xs)
      step true h = grind (arith, nat_tests, common_steps)
      step false h = h

  -- there is one just where one passes
  pub any_placed : (xs : List E) → nat_lt 0 (last_place p (reverse xs)) ≡ list_any p xs
  any_placed xs = any_there (reverse xs) ∙ any_turned xs
