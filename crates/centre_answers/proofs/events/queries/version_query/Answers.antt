use Rattle.std.proofs.Common.{◌≡◌, ◌≤◌, ◌∙◌, inl, inr, Some, Ok, length, refl, ap, subst, sym, rules}
use Rattle.std.specs.Prelude.{IsOk}
use Rattle.centre_events.specs.Asking.{version_query}
use Rattle.centre_events.specs.declared.refusal.Refusal.TheVariants.{Memory}
use Rattle.centre_past.proofs.GivenLemmas.{err_gives}
use Rattle.centre_answers.proofs.OnAirLemmas.{asked_as, asks_some, found_none, found_some, reads_few}
use Rattle.centre_answers.proofs.events.queries.version_query.Goals as goal

pub returns-in_err-cells-clause-verdict : goal.returns-in_err-cells-clause-verdict
returns-in_err-cells-clause-verdict c =
    λ settings past legal tables found current.
    err_gives (version_query past c.args.b c.args.w.now.message_id (Some c.args.serial) c.args.after) c.from_residual.result Memory c.from_residual.ensures.1
    (inl (refl, asks_some past c.args.tables.now c.args.b c.args.w.now c.args.serial c.number.result c.args.after (record { settings = settings; legal = legal; tables = tables; found = found; current = current }) c.number.ensures c.in_err-cells.ensures.some))

pub returns-in_err-cells-clause-meter : goal.returns-in_err-cells-clause-meter
returns-in_err-cells-clause-meter c =
    λ settings past r legal knows.
    reads_few settings past c.args.tables.now.lines c.lines.result.now c.lines-2.result.now r c.args.b c.number.result c.args.tables.now.lines.meter c.cells_on_air.new.self.lines.meter legal knows c.lines.ensures c.tell_lines.ensures c.lines-2.ensures c.tell_line_count.ensures c.cells_on_air.ensures.meter

pub returns-then-is_empty-clause-verdict : goal.returns-then-is_empty-clause-verdict
returns-then-is_empty-clause-verdict c =
    let none : length c.in_ok-cells.cells ≡ 0 = search rules in
    λ settings past legal tables found current.
    inr (found_none past c.args.tables.now c.args.b c.args.w.now c.args.serial c.number.result c.args.after c.in_ok-cells.cells (record { settings = settings; legal = legal; tables = tables; found = found; current = current }) c.number.ensures c.in_ok-cells.ensures.first none)

pub returns-then-is_empty-clause-meter : goal.returns-then-is_empty-clause-meter
returns-then-is_empty-clause-meter c =
    λ settings past r legal knows.
    reads_few settings past c.args.tables.now.lines c.lines.result.now c.lines-2.result.now r c.args.b c.number.result c.args.tables.now.lines.meter c.cells_on_air.new.self.lines.meter legal knows c.lines.ensures c.tell_lines.ensures c.lines-2.ensures c.tell_line_count.ensures c.cells_on_air.ensures.meter

pub returns-in_err-message-clause-verdict : goal.returns-in_err-message-clause-verdict
returns-in_err-message-clause-verdict c =
    let some : 1 ≤ length c.in_ok-cells.cells = search rules in
    λ settings past legal tables found current.
    err_gives (version_query past c.args.b c.args.w.now.message_id (Some c.args.serial) c.args.after) c.from_residual-in_err-message.result Memory c.from_residual-in_err-message.ensures.1
    (inl (refl, subst IsOk (sym (found_some past c.args.tables.now c.args.b c.args.w.now c.args.serial c.number.result c.args.after c.in_ok-cells.cells (record { settings = settings; legal = legal; tables = tables; found = found; current = current }) c.number.ensures c.in_ok-cells.ensures.first some)) refl))

pub returns-in_err-message-clause-meter : goal.returns-in_err-message-clause-meter
returns-in_err-message-clause-meter c =
    λ settings past r legal knows.
    reads_few settings past c.args.tables.now.lines c.lines.result.now c.lines-2.result.now r c.args.b c.number.result c.args.tables.now.lines.meter c.cells_on_air.new.self.lines.meter legal knows c.lines.ensures c.tell_lines.ensures c.lines-2.ensures c.tell_line_count.ensures c.cells_on_air.ensures.meter

pub returns-clause-verdict : goal.returns-clause-verdict
returns-clause-verdict c =
    let some : 1 ≤ length c.in_ok-cells.cells = search rules in
    λ settings past legal tables found current.
    found_some past c.args.tables.now c.args.b c.args.w.now c.args.serial c.number.result c.args.after c.in_ok-cells.cells (record { settings = settings; legal = legal; tables = tables; found = found; current = current }) c.number.ensures c.in_ok-cells.ensures.first some
    ∙ ap Ok (asked_as c.args.w.now.message_id c.args.serial c.in_ok-cells.cells c.message_id.result c.message_id-2.result c.as_slice-2.result.now c.in_ok-message.message c.message_id.ensures c.message_id-2.ensures c.as_slice-2.ensures c.in_ok-message.ensures)

pub returns-clause-meter : goal.returns-clause-meter
returns-clause-meter c =
    λ settings past r legal knows.
    reads_few settings past c.args.tables.now.lines c.lines.result.now c.lines-2.result.now r c.args.b c.number.result c.args.tables.now.lines.meter c.cells_on_air.new.self.lines.meter legal knows c.lines.ensures c.tell_lines.ensures c.lines-2.ensures c.tell_line_count.ensures c.cells_on_air.ensures.meter
