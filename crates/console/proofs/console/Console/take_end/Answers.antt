use Rattle.std.proofs.Common.{[], ◌∷◌, ◌++◌}
use Rattle.std.proofs.lemmas.Result.{err_from_is_err_and, on_ok_weaker, IfErr-weaker}
use Rattle.console.specs.Consoles.{BreaksLine, Stops}
use Rattle.console.proofs.StopLemmas.{stops_at_end, stops_more}
use Rattle.console.proofs.TextLemmas.{goes_end}
use Rattle.console.proofs.console.Console.take_end.Goals as goal

-- the octets before the end of the line are too many, or have no memory
pub returns-in_err-take_run-clause-err : goal.returns-in_err-take_run-clause-err
returns-in_err-take_run-clause-err g c =
    let p = err_from_is_err_and c.from_residual.result c.from_residual.ensures.1 in
    rw (p.1, p.2) (stops_more _ _ (10 ∷ []) _ _ _ (c.in_err-take_run.ensures.err (g.W.Sink.written c.args.writer.now)))

pub returns-clause-ok : goal.returns-clause-ok
returns-clause-ok g c = on_ok_weaker c.end_line.result (goes_end _ _ _ _ _ _ (c.in_ok-take_run.ensures.ok (g.W.Sink.written c.args.writer.now))) c.end_line.ensures.ok

pub returns-clause-err : goal.returns-clause-err
returns-clause-err g c =
    let before = g.W.Sink.written c.args.writer.now in
    let after = g.W.Sink.written c.end_line.new.writer in
    IfErr-weaker c.end_line.result (BreaksLine c.take_run.new.self before after) (Stops c.args.self.now (c.args.run.now ++ 10 ∷ []) before after)
    (λ fault breaks. stops_at_end _ _ _ _ _ fault (c.in_ok-take_run.ensures.ok before) breaks) c.end_line.ensures.err
