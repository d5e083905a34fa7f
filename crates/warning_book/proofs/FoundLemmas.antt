-- What the warning of a number has, where it is found, and what is told where it isn't.
use Rattle.std.proofs.Common.{◌≡◌, ℕ, Bool, true, false, ◌||◌, cond, List, [], ◌∷◌, Some, None, refl, ap}
use Rattle.std.specs.Prelude.{find}
use Rattle.std.specs.List.{list_any}
use Rattle.warning_book.specs.Book.{has_number, is_so, areas_of, versions_of}
use Rattle.warning_book.specs.Laws.{absent_so}
use Rattle.warning_book.specs.declared.warning.Warning.{Warning}

pub absent_in : (n : ℕ) (l : List Warning) → find (has_number n) l ≡ None → list_any (has_number n) l ≡ false
absent_in n [] h = refl
absent_in n (v ∷ l) h = step (absent_in n l) (has_number n v) h
  where
    step : (find (has_number n) l ≡ None → list_any (has_number n) l ≡ false) → (t : Bool) → cond t (Some v) (find (has_number n) l) ≡ None → (t || list_any (has_number n) l) ≡ false
    step rest true e = cc
    step rest false e = rest e

pub so_absent : (n : ℕ) (f : Warning → Bool) (l : List Warning) → find (has_number n) l ≡ None → is_so n f l ≡ false
so_absent n f l h = absent_so n f l (absent_in n l h)

pub areas_found : (n : ℕ) (l : List Warning) (w : Warning) → find (has_number n) l ≡ Some w → areas_of n l ≡ w.areas
areas_found n [] w h = cc
areas_found n (v ∷ l) w h = step (areas_found n l w) (has_number n v) h
  where
    step : (find (has_number n) l ≡ Some w → areas_of n l ≡ w.areas) → (t : Bool) → cond t (Some v) (find (has_number n) l) ≡ Some w → cond t v.areas (areas_of n l) ≡ w.areas
    step rest true e = let same : v ≡ w = cc in ap (λ (x : Warning). x.areas) same
    step rest false e = rest e

pub areas_absent : (n : ℕ) (l : List Warning) → find (has_number n) l ≡ None → areas_of n l ≡ []
areas_absent n [] h = refl
areas_absent n (v ∷ l) h = step (areas_absent n l) (has_number n v) h
  where
    step : (find (has_number n) l ≡ None → areas_of n l ≡ []) → (t : Bool) → cond t (Some v) (find (has_number n) l) ≡ None → cond t v.areas (areas_of n l) ≡ []
    step rest true e = cc
    step rest false e = rest e

pub versions_found : (n : ℕ) (l : List Warning) (w : Warning) → find (has_number n) l ≡ Some w → versions_of n l ≡ w.versions
versions_found n [] w h = cc
versions_found n (v ∷ l) w h = step (versions_found n l w) (has_number n v) h
  where
    step : (find (has_number n) l ≡ Some w → versions_of n l ≡ w.versions) → (t : Bool) → cond t (Some v) (find (has_number n) l) ≡ Some w → cond t v.versions (versions_of n l) ≡ w.versions
    step rest true e = let same : v ≡ w = cc in ap (λ (x : Warning). x.versions) same
    step rest false e = rest e

pub versions_absent : (n : ℕ) (l : List Warning) → find (has_number n) l ≡ None → versions_of n l ≡ []
versions_absent n [] h = refl
versions_absent n (v ∷ l) h = step (versions_absent n l) (has_number n v) h
  where
    step : (find (has_number n) l ≡ None → versions_of n l ≡ []) → (t : Bool) → cond t (Some v) (find (has_number n) l) ≡ None → cond t v.versions (versions_of n l) ≡ []
    step rest true e = cc
    step rest false e = rest e
