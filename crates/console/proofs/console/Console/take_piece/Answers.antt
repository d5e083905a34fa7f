use Rattle.std.proofs.Common.{◌∙◌}
use Rattle.std.proofs.lemmas.Result.{err_from_is_err_and}
use Rattle.console.proofs.StopLemmas.{stops_behind, stops_in_front}
use Rattle.console.proofs.TextLemmas.{goes_behind}
use Rattle.console.proofs.console.Console.take_piece.Goals as goal

-- the fault at this line is one of the piece
pub returns-in_err-take_end-clause-err : goal.returns-in_err-take_end-clause-err
returns-in_err-take_end-clause-err g c =
    let p = err_from_is_err_and c.from_residual.result c.from_residual.ensures.1 in
    rw (p.1, p.2) (c.loop-run.invariant.stops _ _ (stops_in_front _ _ _ _ _ _ _ c.in-Some.ensures.0 c.in_err-take_end.ensures.err))

pub loop-run-preserved : goal.loop-run-preserved
loop-run-preserved g c = record {
  goes = λ new after more. c.loop-run.invariant.goes new after (goes_behind _ _ _ _ _ _ _ _ _ c.in-Some.ensures.0 c.in_ok-take_end.ensures.ok more);
  stops = λ after fault more. c.loop-run.invariant.stops after fault (stops_behind _ _ _ _ _ _ _ _ _ c.in-Some.ensures.0 c.in_ok-take_end.ensures.ok more);
  fine = c.in_ok-take_end.ensures.failed ∙ c.loop-run.invariant.fine;
}
