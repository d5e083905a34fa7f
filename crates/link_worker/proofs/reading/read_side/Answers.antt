use Rattle.std.proofs.Common.{◌∙◌, ap}
use Rattle.framing.specs.Source.{counted}
use Rattle.link_worker.proofs.ReportLemmas.{Reads-end, Reads-more, Reads-same, counted_more}
use Rattle.link_worker.proofs.reading.read_side.Goals as goal

pub returns-in-Err-clause-read : goal.returns-in-Err-clause-read
returns-in-Err-clause-read g c = Reads-end _ _ _ _ _ _ _ _ _ _ _ (Reads-same _ _ _ _ _ _ _ _ _ c.loop-turn.invariant.reads c.release.ensures.same) c.in-Err.ensures.ended

pub loop-turn-preserved : goal.loop-turn-preserved
loop-turn-preserved g c = record {
  none = c.in_default.ensures.none;
  reads = Reads-more _ _ _ _ _ _ _ _ _ _ _ (Reads-same _ _ _ _ _ _ _ _ _ c.loop-turn.invariant.reads c.release.ensures.same) c.in_default.ensures.reads;
  calls = c.read_once.ensures.calls ∙ ap (λ n. counted n 1) c.loop-turn.invariant.calls ∙ counted_more _ _;
  unfailed = c.in_default.ensures.failed ∙ c.loop-turn.invariant.unfailed;
}
