-- Replies in ascending order of their cells: the one of a cell is the first of it.
use Rattle.std.proofs.Common.{◌≡◌, ℕ, zero, suc, ◌+◌, ◌<◌, Bool, true, false, ◌&&◌, cond, List, [], ◌∷◌, Some, length, get_or, refl, sym, ap, ◌∙◌, arith}
use Rattle.std.specs.Prelude.{find}
use Rattle.std.specs.List.{list_all, IsAllAdjacentAnswer}
use Rattle.std.proofs.lemmas.Bool.{and_parts}
use Rattle.std.proofs.lemmas.Bool.Decides.{nat_tests}
use Rattle.std.proofs.lemmas.Grind.{common_steps}
use Rattle.cbsp_ie.specs.CellId.{names}
use Rattle.cbsp_ie.specs.declared.cell_id.CellId.{CellId}
use Rattle.cbsp_ie.specs.declared.cell_id.CellId.TheVariants.{LacCi}
use Rattle.common.specs.Cell.{cell_eq, cell_lt}
use Rattle.common.specs.Order.{is_ascending}
use Rattle.common.specs.declared.cell.Cell.{Cell}
use Rattle.cell_register.specs.CellLaws.{cell_lt_follows}
use Rattle.centre_events.specs.Replies.{reply_lt}
use Rattle.centre_events.specs.declared.reply.Reply.{Reply}
use Rattle.centre_events.proofs.LookupLemmas.{all_at}

-- each comes before the next
abbrev Rises : List Reply → Type 0
Rises xs = (k : ℕ) (d : Reply) → suc k < length xs → reply_lt (get_or xs k d) (get_or xs (suc k) d) ≡ true

-- the first of them comes before all others
before_all : (x : Reply) (xs : List Reply) → Rises (x ∷ xs) → list_all (reply_lt x) xs ≡ true
before_all x [] h = refl
before_all x (y ∷ ys) h = ap (λ t. t && list_all (reply_lt x) ys) (h 0 x (omega arith)) ∙ before_all x ys skipped
  where
    skipped : Rises (x ∷ ys)
    skipped zero d g = cell_lt_follows x.cell y.cell (get_or ys 0 d).cell (h 0 d (omega arith)) (h 1 d (omega arith))
    skipped (suc k) d g = h (suc (suc k)) d (omega arith)

-- a cell before the given one is another
earlier : (c d e : Cell) → cell_lt d e ≡ true → cell_eq c e ≡ true → cell_eq c d ≡ false
earlier c d e before same = grind (arith, nat_tests, common_steps)

-- replies of which each comes before the next are in ascending order
pub ascends : (xs : List Reply) → Rises xs → is_ascending reply_lt xs ≡ true
ascends [] h = refl
ascends (x ∷ xs) h = ap (λ t. t && is_ascending reply_lt xs) (before_all x xs h) ∙ ascends xs (λ k d g. h (suc k) d (omega arith))

-- the answer of a test of each and the next
pub ascends_at_true : (xs : List Reply) (r : Bool) → r ≡ true → IsAllAdjacentAnswer (λ x y b. b ≡ reply_lt x y) xs r → is_ascending reply_lt xs ≡ true
ascends_at_true xs true h e =
    ascends xs (λ k d g. let one : k + 1 ≡ suc k = omega arith in ap (λ n. reply_lt (get_or xs k d) (get_or xs n d)) (sym one) ∙ sym (e k d (omega arith)))
ascends_at_true xs false h e = cc

-- a reply's cell by an identification of its own
abbrev pub own_id : Reply → CellId
own_id r = LacCi r.cell.lac r.cell.ci

-- one that doesn't name the cell is of another
pub other_reply : (c : Cell) (r : Reply) → names [] (own_id r) c ≡ false → cell_eq c r.cell ≡ false
other_reply c r h = grind (arith, nat_tests, common_steps)

-- in ascending order one of the cell is the first of it
pub first_at : (c : Cell) (xs : List Reply) (k : ℕ) (d : Reply) → is_ascending reply_lt xs ≡ true → k < length xs → cell_eq c (get_or xs k d).cell ≡ true → Some (get_or xs k d) ≡ find (λ r. cell_eq c r.cell) xs
first_at c [] k d rises within here = absurd (omega arith)
first_at c (x ∷ xs) zero d rises within here = step (cell_eq c x.cell) here
  where
    step : (t : Bool) → t ≡ true → Some x ≡ cond t (Some x) (find (λ r. cell_eq c r.cell) xs)
    step true e = refl
    step false e = cc
first_at c (x ∷ xs) (suc k) d rises within here =
    let both : (list_all (reply_lt x) xs ≡ true) × (is_ascending reply_lt xs ≡ true) = and_parts (list_all (reply_lt x) xs) (is_ascending reply_lt xs) rises in
    step (cell_eq c x.cell) (earlier c x.cell (get_or xs k d).cell (all_at (reply_lt x) xs k d both.0 (omega arith)) here) (first_at c xs k d both.1 (omega arith) here)
  where
    step : (t : Bool) → t ≡ false → Some (get_or xs k d) ≡ find (λ r. cell_eq c r.cell) xs → Some (get_or xs k d) ≡ cond t (Some x) (find (λ r. cell_eq c r.cell) xs)
    step true e rest = cc
    step false e rest = rest
