-- In a list of single cells in ascending order no entry but one can name a cell, and that one is found by halves.
use Rattle.std.proofs.Common.{◌≡◌, ℕ, zero, suc, ◌+◌, ◌<◌, ◌≤◌, Bool, true, false, ◌&&◌, ◌||◌, cond, List, [], ◌∷◌, Option, Some, None, length, get_or, reverse, refl, sym, ap, ◌∙◌, nat_eq, arith}
use Rattle.std.specs.Prelude.{find}
use Rattle.std.specs.List.{list_all, list_any, IsAllAdjacentAnswer}
use Rattle.std.specs.List.Sorted.{IsPartitionPoint, IsPartitionedBy}
use Rattle.std.specs.Option.{option_or, is_some}
use Rattle.std.proofs.lemmas.Bool.{and_parts}
use Rattle.std.proofs.lemmas.Bool.Decides.{nat_tests}
use Rattle.std.proofs.lemmas.Grind.{common_steps}
use Rattle.std.proofs.lemmas.List.{reverse-append}
use Rattle.std.proofs.lemmas.List.Folds.{find-append}
use Rattle.cbsp_ie.specs.CellId.{names}
use Rattle.cbsp_ie.specs.declared.cell_id.CellId.{CellId}
use Rattle.cbsp_ie.specs.declared.cell_id.CellId.TheVariants as id
use Rattle.std.specs.Cmp.Lexicographic.{pointwise}
use Rattle.common.specs.Cell.{cell_lt}
use Rattle.common.specs.declared.cell.Cell.{Cell}
use Rattle.cell_register.specs.CellLaws.{cell_lt_follows}
use Rattle.cbsp_ie.specs.declared.count_entry.CountEntry.{CountEntry}
use Rattle.centre_events.specs.Counts.{gives_number}
use Rattle.centre_events.specs.Lookups.{is_before, id_lt, are_ordered}

-- an identification of a cell before this one doesn't name it
before_is_other : (plmn : List ℕ) (i : CellId) (c : Cell) → is_before i c ≡ true → names plmn i c ≡ false
before_is_other plmn (id.Global own lac ci) c h = grind (arith, nat_tests, common_steps)
before_is_other plmn (id.LacCi lac ci) c h = grind (arith, nat_tests, common_steps)
before_is_other plmn (id.Ci ci) c h = cc
before_is_other plmn (id.Lai own lac) c h = cc
before_is_other plmn (id.Lac lac) c h = cc
before_is_other plmn id.All c h = cc

-- one before a cell that comes before another is before that other
before_through : (i : CellId) (d c : Cell) → is_before i d ≡ true → cell_lt d c ≡ true → is_before i c ≡ true
before_through (id.Global own lac ci) d c h g = cell_lt_follows (record { lac = lac; ci = ci }) d c h g
before_through (id.LacCi lac ci) d c h g = cell_lt_follows (record { lac = lac; ci = ci }) d c h g
before_through (id.Ci ci) d c h g = cc
before_through (id.Lai own lac) d c h g = cc
before_through (id.Lac lac) d c h g = cc
before_through id.All d c h g = cc

-- what comes before one that is before the cell is before the cell
before_follows : (i j : CellId) (c : Cell) → id_lt i j ≡ true → is_before j c ≡ true → is_before i c ≡ true
before_follows i (id.Global own lac ci) c h g = before_through i (record { lac = lac; ci = ci }) c h g
before_follows i (id.LacCi lac ci) c h g = before_through i (record { lac = lac; ci = ci }) c h g
before_follows i (id.Ci ci) c h g = cc
before_follows i (id.Lai own lac) c h g = cc
before_follows i (id.Lac lac) c h g = cc
before_follows i id.All c h g = cc

id_lt_follows : (i j k : CellId) → id_lt i j ≡ true → id_lt j k ≡ true → id_lt i k ≡ true
id_lt_follows i j (id.Global own lac ci) h g = before_follows i j (record { lac = lac; ci = ci }) h g
id_lt_follows i j (id.LacCi lac ci) h g = before_follows i j (record { lac = lac; ci = ci }) h g
id_lt_follows i j (id.Ci ci) h g = cc
id_lt_follows i j (id.Lai own lac) h g = cc
id_lt_follows i j (id.Lac lac) h g = cc
id_lt_follows i j id.All h g = cc

-- one that is before a cell and not before another tells the two apart
apart : (i : CellId) (d c : Cell) → is_before i d ≡ true → is_before i c ≡ false → (nat_eq d.lac c.lac && nat_eq d.ci c.ci) ≡ false
apart (id.Global own lac ci) d c h g = grind (arith, nat_tests, common_steps)
apart (id.LacCi lac ci) d c h g = grind (arith, nat_tests, common_steps)
apart (id.Ci ci) d c h g = cc
apart (id.Lai own lac) d c h g = cc
apart (id.Lac lac) d c h g = cc
apart id.All d c h g = cc

-- after one that isn't before the cell none names it
after_is_other : (plmn : List ℕ) (i j : CellId) (c : Cell) → id_lt i j ≡ true → is_before i c ≡ false → names plmn j c ≡ false
after_is_other plmn i (id.Global own lac ci) c h g = step (pointwise nat_eq own plmn) (nat_eq lac c.lac) (nat_eq ci c.ci) (apart i (record { lac = lac; ci = ci }) c h g)
  where
    step : (t u v : Bool) → (u && v) ≡ false → (t && u && v) ≡ false
    step true u v e = e
    step false u v e = refl
after_is_other plmn i (id.LacCi lac ci) c h g = apart i (record { lac = lac; ci = ci }) c h g
after_is_other plmn i (id.Ci ci) c h g = cc
after_is_other plmn i (id.Lai own lac) c h g = cc
after_is_other plmn i (id.Lac lac) c h g = cc
after_is_other plmn i id.All c h g = cc

or_none : {E : Type 0} (o : Option E) → option_or o None ≡ o
or_none None = refl
or_none (Some e) = refl

pub any_found : {E : Type 0} (p : E → Bool) (xs : List E) → list_any p xs ≡ is_some (find p xs)
any_found p [] = refl
any_found p (x ∷ xs) = step (p x) (any_found p xs)
  where
    step : (t : Bool) → list_any p xs ≡ is_some (find p xs) → (t || list_any p xs) ≡ is_some (cond t (Some x) (find p xs))
    step true h = refl
    step false h = h

pub all_at : {E : Type 0} (p : E → Bool) (xs : List E) (k : ℕ) (d : E) → list_all p xs ≡ true → k < length xs → p (get_or xs k d) ≡ true
all_at p [] k d h b = absurd (omega arith)
all_at p (x ∷ xs) zero d h b = (and_parts (p x) (list_all p xs) h).0
all_at p (x ∷ xs) (suc k) d h b = all_at p xs k d (and_parts (p x) (list_all p xs) h).1 (omega arith)

module _ {E : Type 0} (f : E → CellId) where
  -- what follows the first, and the list behind it
  parts : (x : E) (xs : List E) → are_ordered f (x ∷ xs) ≡ true → (list_all (λ y. id_lt (f x) (f y)) xs ≡ true) × (are_ordered f xs ≡ true)
  parts x xs h = and_parts (list_all (λ y. id_lt (f x) (f y)) xs) (are_ordered f xs) h

  -- each comes before the next
  abbrev Rises : List E → Type 0
  Rises xs = (k : ℕ) (d : E) → suc k < length xs → id_lt (f (get_or xs k d)) (f (get_or xs (suc k) d)) ≡ true

  before_all : (x : E) (xs : List E) → Rises (x ∷ xs) → list_all (λ y. id_lt (f x) (f y)) xs ≡ true
  before_all x [] h = refl
  before_all x (y ∷ ys) h = ap (λ t. t && list_all (λ z. id_lt (f x) (f z)) ys) (h 0 x (omega arith)) ∙ before_all x ys skipped
    where
      skipped : Rises (x ∷ ys)
      skipped zero d g = id_lt_follows (f x) (f y) (f (get_or ys 0 d)) (h 0 d (omega arith)) (h 1 d (omega arith))
      skipped (suc k) d g = h (suc (suc k)) d (omega arith)

  ascends : (xs : List E) → Rises xs → are_ordered f xs ≡ true
  ascends [] h = refl
  ascends (x ∷ xs) h = ap (λ t. t && are_ordered f xs) (before_all x xs h) ∙ ascends xs (λ k d g. h (suc k) d (omega arith))

  -- the answer of a test of each and the next
  pub ordered_at_true : (xs : List E) (r : Bool) → r ≡ true → IsAllAdjacentAnswer (λ x y b. b ≡ id_lt (f x) (f y)) xs r → are_ordered f xs ≡ true
  ordered_at_true xs true h e =
      ascends xs (λ k d g. let one : k + 1 ≡ suc k = omega arith in ap (λ n. id_lt (f (get_or xs k d)) (f (get_or xs n d))) (sym one) ∙ sym (e k d (omega arith)))
  ordered_at_true xs false h e = cc

  -- those before the cell stand before those that are not
  pub parted : (c : Cell) (xs : List E) → are_ordered f xs ≡ true → IsPartitionedBy (λ e. is_before (f e) c) xs
  parted c [] o i j d low high e = absurd (omega arith)
  parted c (x ∷ xs) o zero zero d low high e = e
  parted c (x ∷ xs) o zero (suc j) d low high e = before_follows (f x) (f (get_or xs j d)) c (all_at (λ y. id_lt (f x) (f y)) xs j d (parts x xs o).0 (omega arith)) e
  parted c (x ∷ xs) o (suc i) zero d low high e = absurd (omega arith)
  parted c (x ∷ xs) o (suc i) (suc j) d low high e = parted c xs (parts x xs o).1 i j d (omega arith) (omega arith) e

  module _ (plmn : List ℕ) (c : Cell) where
    -- up to this place the cells are before the given one, and from it on they are not
    abbrev IsStart : List E → ℕ → Type 0
    IsStart xs i = IsPartitionPoint (λ e. is_before (f e) c ≡ true) (λ e. is_before (f e) c ≡ false) xs i

    module _ (p : E → Bool) (only : (e : E) → names plmn (f e) c ≡ false → p e ≡ false) where
      none_after : (x : E) (xs : List E) → is_before (f x) c ≡ false → list_all (λ y. id_lt (f x) (f y)) xs ≡ true → find p xs ≡ None
      none_after x [] h g = refl
      none_after x (y ∷ ys) h g =
          let both = and_parts (id_lt (f x) (f y)) (list_all (λ z. id_lt (f x) (f z)) ys) g in
          ap (λ t. cond t (Some y) (find p ys)) (only y (after_is_other plmn (f x) (f y) c both.0 h)) ∙ none_after x ys h both.1

      -- the one at the start is the only one that can pass
      pub found_at : (xs : List E) (i : ℕ) (d : E) → are_ordered f xs ≡ true → IsStart xs i → i < length xs → find p xs ≡ cond (p (get_or xs i d)) (Some (get_or xs i d)) None
      found_at [] i d o s h = absurd (omega arith)
      found_at (x ∷ xs) zero d o s h = ap (cond (p x) (Some x)) (none_after x xs (s.1 0 d (omega arith) (omega arith)) (parts x xs o).0)
      found_at (x ∷ xs) (suc i) d o s h =
          ap (λ t. cond t (Some x) (find p xs)) (only x (before_is_other plmn (f x) c (s.0 0 d (omega arith) (omega arith))))
          ∙ found_at xs i d (parts x xs o).1 (λ k e a b. s.0 (suc k) e (omega arith) (omega arith), λ k e a b. s.1 (suc k) e (omega arith) (omega arith)) (omega arith)

      pub none_past : (xs : List E) (i : ℕ) → IsStart xs i → length xs ≤ i → find p xs ≡ None
      none_past [] i s h = refl
      none_past (x ∷ xs) zero s h = absurd (omega arith)
      none_past (x ∷ xs) (suc i) s h =
          ap (λ t. cond t (Some x) (find p xs)) (only x (before_is_other plmn (f x) c (s.0 0 x (omega arith) (omega arith))))
          ∙ none_past xs i (λ k e a b. s.0 (suc k) e (omega arith) (omega arith), λ k e a b. s.1 (suc k) e (omega arith) (omega arith)) (omega arith)

      not_before : (x : E) → p x ≡ true → is_before (f x) c ≡ false
      not_before x h = step (is_before (f x) c) refl
        where
          step : (t : Bool) → is_before (f x) c ≡ t → t ≡ false
          step true e = sym h ∙ only x (before_is_other plmn (f x) c e)
          step false e = refl

      -- the first that passes is the last
      pub turned : (xs : List E) → are_ordered f xs ≡ true → find p (reverse xs) ≡ find p xs
      turned [] o = refl
      turned (x ∷ xs) o =
          ap (find p) (reverse-append (x ∷ []) xs) ∙ find-append p (reverse xs) (x ∷ []) ∙ ap (λ t. option_or t (cond (p x) (Some x) None)) (turned xs (parts x xs o).1) ∙ last (p x) refl
        where
          last : (t : Bool) → p x ≡ t → option_or (find p xs) (cond t (Some x) None) ≡ cond t (Some x) (find p xs)
          last true q = ap (λ t. option_or t (Some x)) (none_after x xs (not_before x q) (parts x xs o).0)
          last false q = or_none (find p xs)

      pub is_found : (xs : List E) (i : ℕ) (x : E) → are_ordered f xs ≡ true → IsStart xs i → i < length xs → x ≡ get_or xs i x → p x ≡ true → Some x ≡ find p xs
      is_found xs i x o s h r t = sym (found_at xs i x o s h ∙ ap (λ y. cond (p y) (Some y) None) (sym r) ∙ ap (λ b. cond b (Some x) None) t)

      pub isnt_found : (xs : List E) (i : ℕ) (x : E) → are_ordered f xs ≡ true → IsStart xs i → i < length xs → x ≡ get_or xs i x → p x ≡ false → None ≡ find p xs
      isnt_found xs i x o s h r t = sym (found_at xs i x o s h ∙ ap (λ y. cond (p y) (Some y) None) (sym r) ∙ ap (λ b. cond b (Some x) None) t)

      pub any_at : (xs : List E) (i : ℕ) (x : E) → are_ordered f xs ≡ true → IsStart xs i → i < length xs → x ≡ get_or xs i x → p x ≡ list_any p xs
      any_at xs i x o s h r = sym (any_found p xs ∙ ap is_some (found_at xs i x o s h ∙ ap (λ y. cond (p y) (Some y) None) (sym r)) ∙ told (p x))
        where
          told : (t : Bool) → is_some (cond t (Some x) None) ≡ t
          told true = refl
          told false = refl

      pub none_any : (xs : List E) (i : ℕ) → IsStart xs i → length xs ≤ i → false ≡ list_any p xs
      none_any xs i s h = sym (any_found p xs ∙ ap is_some (none_past xs i s h))

-- an entry gives no number of a cell that it doesn't name
pub gives_only : (plmn : List ℕ) (c : Cell) (e : CountEntry) → names plmn e.id c ≡ false → gives_number plmn c e ≡ false
gives_only plmn c e h = ap (λ t. nat_eq e.info 0 && t) h ∙ none (nat_eq e.info 0)
  where
    none : (t : Bool) → (t && false) ≡ false
    none true = refl
    none false = refl
