use Rattle.std.proofs.Common.{◌≡◌, ◌<◌, ◌∷◌, ◌∙◌, false, suc, length, drop, get_or, sym, ap, arith}
use Rattle.std.proofs.Math.Seq.{drop-cons}
use Rattle.common.specs.Order.{is_ascending}
use Rattle.areas.proofs.ShareLemmas.{dropped_ascend, first_decides}
use Rattle.areas.specs.Areas.{is_among}
use Rattle.areas.specs.Selector.{selector_lt}
use Rattle.areas.specs.declared.selector.Selector.{Selector}
use Rattle.areas.specs.declared.selector.Selector.TheVariants as selector
use Rattle.areas.proofs.lookups.has_cell_by_steps.Goals as goal

pub returns-then-not-is_before_cell : goal.returns-then-not-is_before_cell
returns-then-not-is_before_cell c =
    let xs = c.args.selectors.now in
    let i = c.loop-s.s-index in
    let cell : Selector = selector.Cell c.args.c in
    let none : Selector = selector.Cell (record { lac = 0; ci = 0 }) in
    let within : i < length xs = omega arith in
    let rest : drop i xs ≡ get_or xs i none ∷ drop (suc i) xs = drop-cons xs i none within in
    let not_before : selector_lt (get_or xs i none) cell ≡ false = sym c.is_before_cell.ensures ∙ c.if-not-is_before_cell.true in
    c.is_cell.ensures
    ∙ first_decides cell (get_or xs i none) (drop (suc i) xs) (ap (is_ascending selector_lt) (sym rest) ∙ dropped_ascend i xs c.requires) not_before
    ∙ ap (is_among cell) (sym rest)
    ∙ c.loop-s.invariant
