-- What each edit changes, for every list of warnings: which warning has a number, and what is true of it.
use Rattle.std.proofs.Common.{◌≡◌, ℕ, Bool, true, false, ◌&&◌, ◌||◌, not, cond, List, [], ◌∷◌, ◌++◌, Option, Some, None, nat_eq, ltb, refl, sym, ap, ◌∙◌, arith}
use Rattle.std.specs.Prelude.{find}
use Rattle.std.specs.Cmp.{unsigned_Decides}
use Rattle.std.specs.List.{list_any, list_all}
use Rattle.std.specs.Option.{option_map, option_or}
use Rattle.std.proofs.lemmas.Bool.{and_parts, or_from}
use Rattle.std.proofs.lemmas.Bool.Decides.{nat_tests}
use Rattle.std.proofs.lemmas.Grind.{common_steps}
use Rattle.std.proofs.lemmas.List.Folds.{find-append, list_any-append}
use Rattle.common.specs.Order.{is_ascending}
use Rattle.common.specs.OrderLaws.{left_out, left_in}
use Rattle.warning_book.specs.Book.{has_number, number_lt, is_so, changed_if, edited, without}
use Rattle.warning_book.specs.declared.warning.Warning.{Warning}

-- the warning of a number, and what the book tells of it

-- a greater number is another
other : (k m n : ℕ) → nat_eq m n ≡ true → ltb m k ≡ true → nat_eq k n ≡ false
other k m n e h = grind (arith, nat_tests, common_steps)

-- the warnings that follow one in order have other numbers
pub none_after : (n : ℕ) (w : Warning) (l : List Warning) → has_number n w ≡ true → list_all (number_lt w) l ≡ true → list_any (has_number n) l ≡ false
none_after n w [] e h = refl
none_after n w (v ∷ l) e h =
    let parts = and_parts (number_lt w v) (list_all (number_lt w) l) h in
    or_from (nat_eq v.number n) (list_any (has_number n) l) (other v.number w.number n e parts.0) (none_after n w l e parts.1)

-- of a warning that is not there nothing is told
pub absent_so : (n : ℕ) (f : Warning → Bool) (l : List Warning) → list_any (has_number n) l ≡ false → is_so n f l ≡ false
absent_so n f [] h = refl
absent_so n f (w ∷ l) h = step (absent_so n f l) (has_number n w) h
  where
    step : (list_any (has_number n) l ≡ false → is_so n f l ≡ false) → (t : Bool) → (t || list_any (has_number n) l) ≡ false → ((t && f w) || is_so n f l) ≡ false
    step rest true e = cc
    step rest false e = rest e

pub or_alone : (a b : Bool) → b ≡ false → (a || b) ≡ a
or_alone true b e = refl
or_alone false b e = e

-- in order a number stands once, so that what is told of it is told of the warning that has it
pub found_so : (n : ℕ) (f : Warning → Bool) (l : List Warning) (w : Warning) → is_ascending number_lt l ≡ true → find (has_number n) l ≡ Some w → is_so n f l ≡ f w
found_so n f [] w o h = cc
found_so n f (v ∷ l) w o h = step (found_so n f l w) (has_number n v) refl (and_parts (list_all (number_lt v) l) (is_ascending number_lt l) o) h
  where
    step : (is_ascending number_lt l ≡ true → find (has_number n) l ≡ Some w → is_so n f l ≡ f w) → (t : Bool) → has_number n v ≡ t → (list_all (number_lt v) l ≡ true) × (is_ascending number_lt l ≡ true) → cond t (Some v) (find (has_number n) l) ≡ Some w → ((t && f v) || is_so n f l) ≡ f w
    step rest true e o h =
        let same : v ≡ w = cc in
        or_alone (f v) (is_so n f l) (absent_so n f l (none_after n v l e o.0)) ∙ ap f same
    step rest false e o h = rest o.1 h

-- edits of one warning

-- f leaves the number of each warning
abbrev pub KeepsNumber : (Warning → Warning) → Type 0
KeepsNumber f = (w : Warning) → (f w).number ≡ w.number

pub number-edited : (n : ℕ) (f : Warning → Warning) → KeepsNumber f → (w : Warning) → (changed_if n f w).number ≡ w.number
number-edited n f keeps w = step (has_number n w)
  where
    step : (t : Bool) → (let v : Warning = cond t (f w) w in v.number) ≡ w.number
    step true = keeps w
    step false = refl

number_kept : (n m : ℕ) (f : Warning → Warning) → KeepsNumber f → (w : Warning) → has_number m (changed_if n f w) ≡ has_number m w
number_kept n m f keeps w = ap (λ k. nat_eq k m) (number-edited n f keeps w)

-- the warning of a number is the changed one where it is that number
pub found_edited : (n m : ℕ) (f : Warning → Warning) → KeepsNumber f → (l : List Warning) → find (has_number m) (edited n f l) ≡ option_map (changed_if n f) (find (has_number m) l)
found_edited n m f keeps [] = refl
found_edited n m f keeps (w ∷ l) =
    ap (λ t. cond t (Some (changed_if n f w)) (find (has_number m) (edited n f l))) (number_kept n m f keeps w) ∙ step (found_edited n m f keeps l) (has_number m w)
  where
    step : find (has_number m) (edited n f l) ≡ option_map (changed_if n f) (find (has_number m) l) → (t : Bool) → cond t (Some (changed_if n f w)) (find (has_number m) (edited n f l)) ≡ option_map (changed_if n f) (cond t (Some w) (find (has_number m) l))
    step rest true = refl
    step rest false = rest

pub so_edited : (n m : ℕ) (f : Warning → Warning) (g : Warning → Bool) → KeepsNumber f → (l : List Warning) → is_so m g (edited n f l) ≡ is_so m (λ w. g (changed_if n f w)) l
so_edited n m f g keeps [] = refl
so_edited n m f g keeps (w ∷ l) =
    ap (λ t. (t && g (changed_if n f w)) || is_so m g (edited n f l)) (number_kept n m f keeps w)
    ∙ ap (λ t. (has_number m w && g (changed_if n f w)) || t) (so_edited n m f g keeps l)

pub there_edited : (n m : ℕ) (f : Warning → Warning) → KeepsNumber f → (l : List Warning) → list_any (has_number m) (edited n f l) ≡ list_any (has_number m) l
there_edited n m f keeps [] = refl
there_edited n m f keeps (w ∷ l) =
    ap (λ t. t || list_any (has_number m) (edited n f l)) (number_kept n m f keeps w) ∙ ap (λ t. has_number m w || t) (there_edited n m f keeps l)

-- a warning that is forgotten

-- a warning of another number
other_number : (n m : ℕ) (w : Warning) → has_number n w ≡ false → nat_eq n m ≡ true → has_number m w ≡ false
other_number n m w h e = ap (nat_eq w.number) (sym ((unsigned_Decides n m).0 e)) ∙ h

pub found_without : (n m : ℕ) (l : List Warning) → find (has_number m) (without n l) ≡ cond (nat_eq n m) None (find (has_number m) l)
found_without n m [] = step (nat_eq n m)
  where
    step : (t : Bool) → None ≡ cond {A = Option Warning} t None None
    step true = refl
    step false = refl
found_without n m (w ∷ l) = step (found_without n m l) (has_number n w) refl
  where
    step : find (has_number m) (without n l) ≡ cond (nat_eq n m) None (find (has_number m) l) → (t : Bool) → has_number n w ≡ t → find (has_number m) (cond (not t) (w ∷ without n l) (without n l)) ≡ cond (nat_eq n m) None (cond (has_number m w) (Some w) (find (has_number m) l))
    step rest true e =
        rest ∙ left_out (nat_eq n m) (has_number m w) None (Some w) (find (has_number m) l) (ap (λ k. nat_eq k m) ((unsigned_Decides w.number n).0 e))
    step rest false e =
        ap (λ o. cond (has_number m w) (Some w) o) rest ∙ left_in (nat_eq n m) (has_number m w) None (Some w) (find (has_number m) l) (other_number n m w e)

pub so_without : (n m : ℕ) (g : Warning → Bool) (l : List Warning) → is_so m g (without n l) ≡ cond (nat_eq n m) false (is_so m g l)
so_without n m g [] = step (nat_eq n m)
  where
    step : (t : Bool) → false ≡ cond t false false
    step true = refl
    step false = refl
so_without n m g (w ∷ l) = step (so_without n m g l) (has_number n w) refl
  where
    out : (p q b r : Bool) → q ≡ p → cond p false r ≡ cond p false ((q && b) || r)
    out true q b r e = refl
    out false true b r e = cc
    out false false b r e = refl

    stays : (p q b r : Bool) → (p ≡ true → q ≡ false) → ((q && b) || cond p false r) ≡ cond p false ((q && b) || r)
    stays true true b r f = absurd (let no : true ≡ false = f refl in cc)
    stays true false b r f = refl
    stays false q b r f = refl

    step : is_so m g (without n l) ≡ cond (nat_eq n m) false (is_so m g l) → (t : Bool) → has_number n w ≡ t → is_so m g (cond (not t) (w ∷ without n l) (without n l)) ≡ cond (nat_eq n m) false ((has_number m w && g w) || is_so m g l)
    step rest true e = rest ∙ out (nat_eq n m) (has_number m w) (g w) (is_so m g l) (ap (λ k. nat_eq k m) ((unsigned_Decides w.number n).0 e))
    step rest false e = ap (λ t. (has_number m w && g w) || t) rest ∙ stays (nat_eq n m) (has_number m w) (g w) (is_so m g l) (other_number n m w e)

-- a warning that is issued stands last

pub found_issued : (m : ℕ) (l : List Warning) (w : Warning) → find (has_number m) (l ++ w ∷ []) ≡ option_or (find (has_number m) l) (cond (has_number m w) (Some w) None)
found_issued m l w = find-append (has_number m) l (w ∷ [])

pub so_issued : (m : ℕ) (g : Warning → Bool) (l : List Warning) (w : Warning) → is_so m g (l ++ w ∷ []) ≡ (is_so m g l || (has_number m w && g w))
so_issued m g l w = list_any-append (λ v. has_number m v && g v) l (w ∷ []) ∙ ap (λ t. is_so m g l || t) (or_alone (has_number m w && g w) false refl)
