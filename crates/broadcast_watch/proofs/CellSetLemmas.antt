-- The cells of a list, as a set.
use Rattle.std.proofs.Common.{◌≡◌, ℕ, ◌+◌, ◌<◌, Bool, true, false, cond, ◌||◌, List, [], ◌∷◌, length, take, get_or, refl, sym, ap, ◌∙◌}
use Rattle.std.proofs.Common.{arith}
use Rattle.std.proofs.lemmas.Bool.Decides.{nat_tests}
use Rattle.std.proofs.lemmas.Grind.{common_steps}
use Rattle.std.proofs.lemmas.List.{take_more}
use Rattle.std.proofs.lemmas.List.Folds.{list_any-append}
use Rattle.std.specs.BTreeMap.{is_at}
use Rattle.std.specs.List.{list_any}
use Rattle.common.specs.Cell.{cell_eq, cell_cmp}
use Rattle.common.specs.declared.cell.Cell.{Cell}

-- two cells compare equal where they are the same
at_cell : (a b : Cell) → is_at (cell_cmp a) b ≡ cell_eq a b
at_cell a b = grind (arith, nat_tests, common_steps)

-- whichever is named first
at_turned : (a b : Cell) → is_at (cell_cmp a) b ≡ cell_eq b a
at_turned a b = grind (arith, nat_tests, common_steps)

any_cell : (c : Cell) (cells : List Cell) → list_any (is_at (cell_cmp c)) cells ≡ list_any (cell_eq c) cells
any_cell c [] = refl
any_cell c (d ∷ cells) = rw (at_cell c d, any_cell c cells) refl

joined : (s t : Bool) → cond s true t ≡ (t || (s || false))
joined true true = refl
joined true false = refl
joined false true = refl
joined false false = refl

-- one more cell of the list
pub set_more : (cells old new : List Cell) (i : ℕ) (d : Cell) → i < length cells → ((c : Cell) → list_any (cell_eq c) old ≡ list_any (cell_eq c) (take i cells))
    → ((c : Cell) → list_any (is_at (cell_cmp c)) new ≡ cond (is_at (cell_cmp (get_or cells i d)) c) true (list_any (is_at (cell_cmp c)) old))
    → (c : Cell) → list_any (cell_eq c) new ≡ list_any (cell_eq c) (take (i + 1) cells)
set_more cells old new i d lt before added c =
    let x = get_or cells i d in
    sym (any_cell c new) ∙ added c ∙ ap (λ t. cond t true (list_any (is_at (cell_cmp c)) old)) (at_turned x c) ∙ ap (λ t. cond (cell_eq c x) true t) (any_cell c old ∙ before c)
    ∙ joined (cell_eq c x) (list_any (cell_eq c) (take i cells)) ∙ sym (list_any-append (cell_eq c) (take i cells) (x ∷ [])) ∙ ap (list_any (cell_eq c)) (sym (take_more cells i d lt))
