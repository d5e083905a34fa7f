use Rattle.std.proofs.Common.{◌≡◌, filter, not}
use Rattle.std.proofs.lemmas.List.{take_all}
use Rattle.areas.specs.Areas.{has_selector}
use Rattle.areas.specs.declared.selector.Selector.TheVariants.{Cell}
use Rattle.cell_register.specs.Register.{cells_in}
use Rattle.coverage_plan.proofs.ReachLemmas.{only_in_are}
use Rattle.coverage_plan.proofs.reach.only_cells_in.Goals as goal

pub returns : goal.returns
returns c =
    let r = c.args.register.now in
    let l = c.args.areas.now in
    let a = c.args.a.now in
    let passed = take_all c.loop-cell.cell-index c.as_slice-cells.result.now c.loop-cell-test.false in
    let all : c.as_slice-cells.result.now ≡ cells_in r c.args.lac = cc (c.as_slice-cells.ensures, c.in_ok-all.ensures) in
    let found : c.from_vec.result ≡ filter (λ d. not (has_selector l a (Cell d))) (cells_in r c.args.lac) = cc (c.from_vec.ensures, c.loop-cell.invariant, passed, all) in
    rw found (only_in_are r l a c.args.lac c.tell_soundness.ensures)
