use Rattle.std.proofs.Common.{◌≡◌, ◌∙◌, ◌-◌, length, take, drop, ap, arith}
use Rattle.std.proofs.lemmas.Bool.{ne_eqb}
use Rattle.std.proofs.lemmas.List.{length-drop, take_all}
use Rattle.areas.proofs.SelectorSearch.{none_from, lac_decides, cell_decides, cell_behind, other_decides}
use Rattle.areas.proofs.ShareLemmas.{dropped_ascend}
use Rattle.areas.specs.Areas.{is_among}
use Rattle.areas.specs.declared.selector.Selector.{Selector}
use Rattle.areas.specs.declared.selector.Selector.TheVariants as selector
use Rattle.areas.proofs.lookups.selects.Goals as goal

pub returns-then-start-selectors : goal.returns-then-start-selectors
returns-then-start-selectors c =
    none_from c.args.c c.args.selectors.now c.start_of-start.result (selector.Lac c.args.c.lac) c.requires c.if-start-selectors.true c.start_of-start.ensures.start

pub returns-in-Lac : goal.returns-in-Lac
returns-in-Lac c =
    let first : Selector = selector.Cell (record { lac = 0; ci = 0 }) in
    let bound = c.start_of-start.ensures.bound in
    lac_decides c.args.c c.args.selectors.now c.start_of-start.result first c.in-Lac.lac c.requires (omega arith) c.start_of-start.ensures.start c.in-Lac.is

pub has_cell-requires : goal.has_cell-requires
has_cell-requires c =
    let xs = c.args.selectors.now in
    let start = c.start_of-start.result in
    let rest : take (length xs - start) (drop start xs) ≡ drop start xs = take_all (length xs - start) (drop start xs) (omega (arith, length-drop start xs)) in
    rw rest (dropped_ascend start xs c.requires)

pub returns-then-first-c : goal.returns-then-first-c
returns-then-first-c c =
    let first : Selector = selector.Cell (record { lac = 0; ci = 0 }) in
    let xs = c.args.selectors.now in
    let start = c.start_of-start.result in
    let bound = c.start_of-start.ensures.bound in
    let point = c.start_of-start.ensures.start in
    let rest : take (length xs - start) (drop start xs) ≡ drop start xs = take_all (length xs - start) (drop start xs) (omega (arith, length-drop start xs)) in
    c.has_cell.ensures
    ∙ ap (is_among (selector.Cell c.args.c)) rest
    ∙ cell_behind c.args.c xs start point bound
    ∙ cell_decides c.args.c xs start first c.in-Cell.first c.requires (omega arith) point c.in-Cell.is

pub returns-else-first-c : goal.returns-else-first-c
returns-else-first-c c =
    let first : Selector = selector.Cell (record { lac = 0; ci = 0 }) in
    let bound = c.start_of-start.ensures.bound in
    other_decides c.args.c c.args.selectors.now c.start_of-start.result first c.in-Cell.first c.requires (omega arith) c.start_of-start.ensures.start c.in-Cell.is (ne_eqb c.in-Cell.first.lac c.args.c.lac c.if-first-c.false)
