-- How the numbers of one warning change, and those of no other.
use Rattle.std.proofs.Common.{◌≡◌, ℕ, Bool, true, false, cond, List, Some, None, slice_get, nat_eq, if◌then◌else◌, refl, sym, ap, subst, ◌∙◌, unwrap_or}
use Rattle.std.specs.Cmp.{unsigned_Decides}
use Rattle.std.specs.Map.{lookup}
use Rattle.coverage_board.specs.Board.{WarningNumbers, nothing, area_in, row_of, total_of, area_of, CountsNothing, KeepsNoZeroRow}
use Rattle.coverage_board.specs.Numbers.{zero_numbers, moved}
use Rattle.coverage_board.specs.declared.numbers.Numbers.{Numbers}

-- from old to new the numbers of warning k are the row, and no others change
abbrev pub IsChanged : ℕ → WarningNumbers → List (ℕ × WarningNumbers) → List (ℕ × WarningNumbers) → Type 0
IsChanged k row old new = (q : ℕ) → lookup (nat_eq q) new ≡ cond (nat_eq k q) (Some row) (lookup (nat_eq q) old)

-- where its total has moved, so has that of the warning, and no other
pub total_changed : (k : ℕ) (row : WarningNumbers) (old new : List (ℕ × WarningNumbers)) → IsChanged k row old new → (p q : Numbers) → row.total ≡ moved (total_of old k) p q → (v : ℕ) → total_of new v ≡ (if nat_eq k v then moved (total_of old v) p q else total_of old v)
total_changed k row old new change p q is v = step (nat_eq k v) refl (change v)
  where
    step : (t : Bool) → nat_eq k v ≡ t → lookup (nat_eq v) new ≡ cond t (Some row) (lookup (nat_eq v) old) → total_of new v ≡ (if t then moved (total_of old v) p q else total_of old v)
    step true e g =
        ap (λ o. (unwrap_or o nothing).total) g ∙ is ∙ ap (λ n. moved (total_of old n) p q) ((unsigned_Decides k v).0 e)
    step false e g = ap (λ o. (unwrap_or o nothing).total) g

-- and where the numbers of its areas have moved, so have those of the warning's areas
pub areas_changed : (k : ℕ) (row : WarningNumbers) (old new : List (ℕ × WarningNumbers)) → IsChanged k row old new → (p q : List ℕ → Numbers) → ((a : List ℕ) → area_in row.areas a ≡ moved (area_of old k a) (p a) (q a)) → (v : ℕ) (a : List ℕ) → area_of new v a ≡ (if nat_eq k v then moved (area_of old v a) (p a) (q a) else area_of old v a)
areas_changed k row old new change p q is v a = step (nat_eq k v) refl (change v)
  where
    step : (t : Bool) → nat_eq k v ≡ t → lookup (nat_eq v) new ≡ cond t (Some row) (lookup (nat_eq v) old) → area_of new v a ≡ (if t then moved (area_of old v a) (p a) (q a) else area_of old v a)
    step true e g =
        ap (λ o. area_in (unwrap_or o nothing).areas a) g ∙ is a ∙ ap (λ n. moved (area_of old n a) (p a) (q a)) ((unsigned_Decides k v).0 e)
    step false e g = ap (λ o. area_in (unwrap_or o nothing).areas a) g

-- the row that stands at the place of a warning has its numbers
pub row_is : (k : ℕ) (entries : List (ℕ × WarningNumbers)) (i x : ℕ) (row : WarningNumbers) → slice_get entries i ≡ Some (x, row) → slice_get entries i ≡ Some (k, row_of entries k) → (x ≡ k) × (row ≡ row_of entries k)
row_is k entries i x row h g =
    let both : ◌≡◌ {A = ℕ × WarningNumbers} (x, row) (k, row_of entries k) = cc in
    (λ j. (both j).0, λ j. (both j).1)

-- where a row is written at the place of a warning, it is that of the warning, and no other changes
pub row_written : (k : ℕ) (old new : List (ℕ × WarningNumbers)) (i x : ℕ) (row0 row : WarningNumbers) → slice_get old i ≡ Some (x, row0) → slice_get old i ≡ Some (k, row_of old k) → ((q : ℕ) → lookup (nat_eq q) new ≡ cond (nat_eq x q) (Some row) (lookup (nat_eq q) old)) → IsChanged k row old new × (row0 ≡ row_of old k)
row_written k old new i x row0 row h g change =
    let is = row_is k old i x row0 h g in
    (subst (λ y. IsChanged y row old new) is.0 change, is.1)

-- from old to new the row of warning k is taken out, and no other changes
abbrev pub IsTakenOut : ℕ → List (ℕ × WarningNumbers) → List (ℕ × WarningNumbers) → Type 0
IsTakenOut k old new = (q : ℕ) → lookup (nat_eq q) new ≡ cond (nat_eq k q) None (lookup (nat_eq q) old)

-- where that row was written before and counts nothing, each total is as it was with the row
pub total_without : (k : ℕ) (row : WarningNumbers) (old mid new : List (ℕ × WarningNumbers)) → IsChanged k row old mid → IsTakenOut k mid new → CountsNothing row → (v : ℕ) → total_of new v ≡ total_of mid v
total_without k row old mid new change taken none v = step (nat_eq k v) (change v) (taken v)
  where
    step : (t : Bool) → lookup (nat_eq v) mid ≡ cond t (Some row) (lookup (nat_eq v) old) → lookup (nat_eq v) new ≡ cond t None (lookup (nat_eq v) mid) → total_of new v ≡ total_of mid v
    step true e g = ap (λ o. (unwrap_or o nothing).total) g ∙ sym none.0 ∙ sym (ap (λ o. (unwrap_or o nothing).total) e)
    step false e g = ap (λ o. (unwrap_or o nothing).total) g

-- and so are the numbers of each area
pub area_without : (k : ℕ) (row : WarningNumbers) (old mid new : List (ℕ × WarningNumbers)) → IsChanged k row old mid → IsTakenOut k mid new → CountsNothing row → (v : ℕ) (a : List ℕ) → area_of new v a ≡ area_of mid v a
area_without k row old mid new change taken none v a = step (nat_eq k v) (change v) (taken v)
  where
    step : (t : Bool) → lookup (nat_eq v) mid ≡ cond t (Some row) (lookup (nat_eq v) old) → lookup (nat_eq v) new ≡ cond t None (lookup (nat_eq v) mid) → area_of new v a ≡ area_of mid v a
    step true e g = ap (λ o. area_in (unwrap_or o nothing).areas a) g ∙ sym (none.1 a) ∙ sym (ap (λ o. area_in (unwrap_or o nothing).areas a) e)
    step false e g = ap (λ o. area_in (unwrap_or o nothing).areas a) g

-- where a row that counts something is written, no warning for which nothing is counted has a row, as before
pub rows_with : (k : ℕ) (row : WarningNumbers) (old new : List (ℕ × WarningNumbers)) → IsChanged k row old new → (CountsNothing row → ⊥) → KeepsNoZeroRow old → (v : ℕ) → CountsNothing (row_of new v) → lookup (nat_eq v) new ≡ None
rows_with k row old new change some kept v none = step (nat_eq k v) (change v)
  where
    step : (t : Bool) → lookup (nat_eq v) new ≡ cond t (Some row) (lookup (nat_eq v) old) → lookup (nat_eq v) new ≡ None
    step true g = absurd (some (subst (λ r. CountsNothing r) (ap (λ o. unwrap_or o nothing) g) none))
    step false g = g ∙ kept v (subst (λ r. CountsNothing r) (ap (λ o. unwrap_or o nothing) g) none)

-- nor where the row that was written is taken out
pub rows_without : (k : ℕ) (row : WarningNumbers) (old mid new : List (ℕ × WarningNumbers)) → IsChanged k row old mid → IsTakenOut k mid new → KeepsNoZeroRow old → (v : ℕ) → CountsNothing (row_of new v) → lookup (nat_eq v) new ≡ None
rows_without k row old mid new change taken kept v none = step (nat_eq k v) (change v) (taken v)
  where
    step : (t : Bool) → lookup (nat_eq v) mid ≡ cond t (Some row) (lookup (nat_eq v) old) → lookup (nat_eq v) new ≡ cond t None (lookup (nat_eq v) mid) → lookup (nat_eq v) new ≡ None
    step true e g = g
    step false e g = g ∙ e ∙ kept v (subst (λ r. CountsNothing r) (ap (λ o. unwrap_or o nothing) (g ∙ e)) none)

-- where nothing is counted for a warning that has no row, its total has moved as it stands, and no other has
pub total_kept : (k : ℕ) (row : WarningNumbers) (board : List (ℕ × WarningNumbers)) → lookup (nat_eq k) board ≡ None → CountsNothing row → (p q : Numbers) → row.total ≡ moved zero_numbers p q → (v : ℕ) → total_of board v ≡ (if nat_eq k v then moved (total_of board v) p q else total_of board v)
total_kept k row board absent none p q is v = step (nat_eq k v) refl
  where
    step : (t : Bool) → nat_eq k v ≡ t → total_of board v ≡ (if t then moved (total_of board v) p q else total_of board v)
    step true e =
        let zero : total_of board v ≡ zero_numbers = ap (λ w. total_of board w) (sym ((unsigned_Decides k v).0 e)) ∙ ap (λ o. (unwrap_or o nothing).total) absent in
        zero ∙ sym none.0 ∙ is ∙ ap (λ n. moved n p q) (sym zero)
    step false e = refl

-- and so have the numbers of its areas
pub areas_kept : (k : ℕ) (row : WarningNumbers) (board : List (ℕ × WarningNumbers)) → lookup (nat_eq k) board ≡ None → CountsNothing row → (p q : List ℕ → Numbers) → ((a : List ℕ) → area_in row.areas a ≡ moved zero_numbers (p a) (q a)) → (v : ℕ) (a : List ℕ) → area_of board v a ≡ (if nat_eq k v then moved (area_of board v a) (p a) (q a) else area_of board v a)
areas_kept k row board absent none p q is v a = step (nat_eq k v) refl
  where
    step : (t : Bool) → nat_eq k v ≡ t → area_of board v a ≡ (if t then moved (area_of board v a) (p a) (q a) else area_of board v a)
    step true e =
        let zero : area_of board v a ≡ zero_numbers = ap (λ w. area_of board w a) (sym ((unsigned_Decides k v).0 e)) ∙ ap (λ o. area_in (unwrap_or o nothing).areas a) absent in
        zero ∙ sym (none.1 a) ∙ is a ∙ ap (λ n. moved n (p a) (q a)) (sym zero)
    step false e = refl
