use Rattle.std.proofs.Common.{◌≡◌, ◌∙◌, false, get_or, sym, arith}
use Rattle.areas.proofs.SelectorSearch.{point_at, comes_before}
use Rattle.areas.specs.declared.selector.Selector.{Selector}
use Rattle.areas.specs.declared.selector.Selector.TheVariants as selector
use Rattle.areas.proofs.lookups.start_near.Goals as goal

pub returns-then-not-is_before_lac-clause-start : goal.returns-then-not-is_before_lac-clause-start
returns-then-not-is_before_lac-clause-start c =
    let none : Selector = selector.Cell (record { lac = 0; ci = 0 }) in
    let xs = c.args.selectors.now in
    let at : comes_before (selector.Lac c.args.lac) (get_or xs c.loop-place.place none) ≡ false = sym c.is_before_lac.ensures ∙ c.if-not-is_before_lac.true in
    point_at (selector.Lac c.args.lac) xs c.loop-place.place none c.requires (omega arith) c.loop-place.invariant at
