use Rattle.std.proofs.Common.{◌≤◌, ◌∙◌, ap, arith, length, take, rules}
use Rattle.mirror.proofs.OnAirCellLemmas.{after_few, air_listed}
use Rattle.mirror.proofs.UntilLemmas.{until_counted}
use Rattle.mirror.specs.Lines.{lines_at}
use Rattle.mirror.specs.OnAir.{lines_for, line_count, on_air_cells, until_found}
use Rattle.mirror.specs.Table.{counted_all}
use Rattle.mirror.proofs.line_table.LineTable.cells_on_air.Goals as goal

pub returns-in_err-cells-clause-some : goal.returns-in_err-cells-clause-some
returns-in_err-cells-clause-some c =
    rw (← c.self.view_is) (λ xs l.
    let listed = ap (on_air_cells c.args.serial) c.later-slots.ensures.of ∙ air_listed _ c.later-slots.ensures.ordered c.args.b c.args.w c.args.serial c.args.after xs l in
    let some : 1 ≤ length (take c.args.most xs) = rw (← listed) c.in_err-cells.ensures.some in
    search (rules, some))

pub returns-in_err-cells-clause-meter : goal.returns-in_err-cells-clause-meter
returns-in_err-cells-clause-meter c =
    let all : length (lines_for c.args.b c.args.w (lines_at c.later-slots.result c.self.inside.lines)) ≤ line_count c.args.self.now c.args.b c.args.w = rw (← c.self.view_is, c.later-slots.ensures.of) (after_few c.args.b c.args.w c.args.after c.self.inside.lines) in
    grind (arith, c.self.view_is, c.in_err-cells.ensures.meter, all)

pub returns-clause-first : goal.returns-clause-first
returns-clause-first c =
    rw (← c.self.view_is) (λ xs l. c.in_ok-cells.ensures.first
    ∙ ap (λ es. take c.args.most (on_air_cells c.args.serial es)) c.later-slots.ensures.of
    ∙ ap (take c.args.most) (air_listed _ c.later-slots.ensures.ordered c.args.b c.args.w c.args.serial c.args.after xs l))

pub returns-clause-meter : goal.returns-clause-meter
returns-clause-meter c =
    let all : length (lines_for c.args.b c.args.w (lines_at c.later-slots.result c.self.inside.lines)) ≤ line_count c.args.self.now c.args.b c.args.w = rw (← c.self.view_is, c.later-slots.ensures.of) (after_few c.args.b c.args.w c.args.after c.self.inside.lines) in
    grind (arith, c.self.view_is, c.in_ok-cells.ensures.meter, all)

pub returns-clause-counted : goal.returns-clause-counted
returns-clause-counted c =
    let found = c.in_ok-cells.ensures.first ∙ ap (λ es. take c.args.most (on_air_cells c.args.serial es)) c.later-slots.ensures.of in
    rw (← c.self.view_is) (c.in_ok-cells.ensures.counted
    ∙ ap (λ es. counted_all (length (until_found c.args.serial c.args.most es)) c.self.inside.meter) c.later-slots.ensures.of
    ∙ ap (λ k. counted_all k c.self.inside.meter) (until_counted (record { lines = c.self.inside.lines; downs = c.self.inside.downs; meter = c.self.inside.meter }) c.later-slots.ensures.ordered c.args.b c.args.w c.args.serial c.args.after c.args.most _ found))
