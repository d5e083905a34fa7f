use Rattle.std.proofs.Common.{◌≡◌, ◌&&◌, ◌∙◌, ap, filter, rules}
use Rattle.common.specs.Cell.{cell_lt}
use Rattle.common.specs.OrderLaws.{ascending_filter}
use Rattle.mirror.proofs.GatherLemmas.{among_kept}
use Rattle.mirror.specs.Known.{is_named}
use Rattle.mirror.proofs.line_table.LineTable.known_cells_named.Goals as goal

pub returns-clause-order : goal.returns-clause-order
returns-clause-order c =
    let named : c.in_ok-cells.cells ≡ filter (is_named c.args.network c.args.ids.now) c.in_ok-known.known = search rules in
    rw named (ascending_filter cell_lt (is_named c.args.network c.args.ids.now) c.in_ok-known.known c.in_ok-known.ensures.order)

pub returns-clause-named : goal.returns-clause-named
returns-clause-named c =
    let named : c.in_ok-cells.cells ≡ filter (is_named c.args.network c.args.ids.now) c.in_ok-known.known = search rules in
    λ d. rw named (among_kept (is_named c.args.network c.args.ids.now) c.in_ok-known.known d) ∙ ap (λ t. t && is_named c.args.network c.args.ids.now d) (c.in_ok-known.ensures.known d)
