use Rattle.std.proofs.Common.{◌∙◌, sym}
use Rattle.order_maker.proofs.CellLemmas.{all_before}
use Rattle.order_maker.proofs.order_cells.are_before.Goals as goal

pub returns-in-Some : goal.returns-in-Some
returns-in-Some c =
    let last = rw c.args.cells.now.ok.0 at c.in-Some.ensures.lookup in
    λ h. all_before c.args.c c.in-Some.last.now c.args.cells.now.items c.requires last (sym c.is_before.ensures ∙ h)
