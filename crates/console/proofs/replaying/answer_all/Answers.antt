use Rattle.std.proofs.Common.{ap, ◌∙◌}
use Rattle.std.proofs.lemmas.Result.{err_from_is_err_and}
use Rattle.framing.specs.Source.{counted}
use Rattle.console.proofs.ReplayLemmas.{replays, reads_more, breaks_reading, breaks_at_end, breaks_unended, counted_more}
use Rattle.console.proofs.replaying.answer_all.Goals as goal

-- a fault while octets are read
pub returns-in_err-turn-clause-part : goal.returns-in_err-turn-clause-part
returns-in_err-turn-clause-part g c =
    let p = err_from_is_err_and c.from_residual.result c.from_residual.ensures.1 in
    rw (p.1, p.2) (breaks_reading _ _ _ _ _ _ c.requires c.loop-turn.invariant.reads _ _ _ c.in_err-turn.ensures.err)

-- a fault at the last line
pub returns-in_err-end_line-clause-part : goal.returns-in_err-end_line-clause-part
returns-in_err-end_line-clause-part g c =
    let p = err_from_is_err_and c.from_residual-in_err-end_line.result c.from_residual-in_err-end_line.ensures.1 in
    rw (p.1, p.2)
    (breaks_at_end c.args.console.now c.turn.new.console _ _ _ _ c.requires (reads_more _ _ _ _ _ _ _ _ _ c.loop-turn.invariant.reads c.in_ok-turn.ensures.ok) _ c.in_err-end_line.field-0.0 c.in_err-end_line.ensures.err)

-- the input ends
pub returns-then-not-branch-clause-all : goal.returns-then-not-branch-clause-all
returns-then-not-branch-clause-all g c =
    replays _ _ _ _ _ _ c.requires (reads_more _ _ _ _ _ _ _ _ _ c.loop-turn.invariant.reads c.in_ok-turn.ensures.ok) _ _ (c.in_ok-turn.ensures.end c.if-not-branch.true) c.in_ok-end_line.ensures.ok

pub loop-turn-preserved : goal.loop-turn-preserved
loop-turn-preserved g c = record {
  reads = reads_more _ _ _ _ _ _ _ _ _ c.loop-turn.invariant.reads c.in_ok-turn.ensures.ok;
  calls = c.turn.ensures.calls ∙ ap (λ n. counted n 1) c.loop-turn.invariant.calls ∙ counted_more _ _;
  unfailed = c.in_ok-turn.ensures.read_failed ∙ c.loop-turn.invariant.unfailed;
  fine = c.in_ok-turn.ensures.write_failed ∙ c.loop-turn.invariant.fine;
}

-- so many reads came to no end
pub returns-clause-part : goal.returns-clause-part
returns-clause-part g c = breaks_unended _ _ _ _ _ _ c.requires c.loop-turn.invariant.reads
