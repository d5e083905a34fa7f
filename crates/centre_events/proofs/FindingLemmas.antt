-- Where a cell stands first in a list: there is such a place if the cell is one of the list, and the cell is there.
use Rattle.std.proofs.Common.{◌≡◌, ◌+◌, ℕ, suc, Bool, true, false, not, ◌||◌, cond, List, [], ◌∷◌, Option, Some, None, length, get_or, nat_lt, refl, sym, ap, ◌∙◌, arith}
use Rattle.std.specs.Prelude.{IfSome, slice_get}
use Rattle.std.specs.List.{list_any, position, position_or_len}
use Rattle.std.specs.Option.{is_some}
use Rattle.std.proofs.lemmas.Bool.Decides.{nat_tests}
use Rattle.std.proofs.lemmas.Grind.{common_steps}
use Rattle.std.proofs.lemmas.List.Quantifiers.{position-Some}
use Rattle.std.proofs.lemmas.Option.{slice_get-get_or}
use Rattle.common.specs.Cell.{cell_eq}
use Rattle.common.specs.Equality.{cell_decides}
use Rattle.common.specs.declared.cell.Cell.{Cell}

is_within : {X : Type 0} (p : X → Bool) (xs : List X) → nat_lt (position_or_len p xs) (length xs) ≡ list_any p xs
is_within p [] = refl
is_within p (x ∷ xs) = step (p x) (position_or_len p xs) (length xs) (list_any p xs) (is_within p xs)
  where
    step : (t : Bool) (n m : ℕ) (u : Bool) → nat_lt n m ≡ u → nat_lt (cond (not t) (1 + n) 0) (suc m) ≡ (t || u)
    step true n m u rest = grind (arith, nat_tests, common_steps)
    step false n m u rest = grind (arith, nat_tests, common_steps)

pub is_some_position : {X : Type 0} (p : X → Bool) (xs : List X) → is_some (position p xs) ≡ list_any p xs
is_some_position p xs = step (nat_lt (position_or_len p xs) (length xs)) (position_or_len p xs) ∙ is_within p xs
  where
    step : (t : Bool) (n : ℕ) → is_some (cond t (Some n) None) ≡ t
    step true n = refl
    step false n = refl

pub stands_there : (c : Cell) (cs : List Cell) (o : Option ℕ) → o ≡ position (cell_eq c) cs → IfSome o (λ place. slice_get cs place ≡ Some c)
stands_there c cs None e = tt
stands_there c cs (Some i) e =
    let there = position-Some (cell_eq c) cs i c (sym e) in
    slice_get-get_or cs i c there.0 ∙ ap Some (sym ((cell_decides c (get_or cs i c)).0 there.1))
