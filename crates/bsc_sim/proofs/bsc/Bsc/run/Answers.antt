use Rattle.std.proofs.Common.{ap, ◌∙◌}
use Rattle.framing.specs.Source.{counted}
use Rattle.bsc_sim.proofs.ConversationLemmas.{converses_not, converses_on, converses_until, counted_more, turns_more}
use Rattle.bsc_sim.proofs.bsc.Bsc.run.Goals as goal

-- the opening isn't written
pub returns-in-Err-clause-conversation : goal.returns-in-Err-clause-conversation
returns-in-Err-clause-conversation g c = converses_not _ _ _ _ _ _ _ c.open.ensures.emptied c.in-Err.ensures.err

-- the conversation ends at a read
pub returns-in-Err-turn-clause-conversation : goal.returns-in-Err-turn-clause-conversation
returns-in-Err-turn-clause-conversation g c =
    converses_until _ _ _ _ _ _ _ _ _ _ _ _ _ _ c.open.ensures.emptied c.in_default.ensures.ok c.loop-turn.invariant.turns c.in-Err-turn.ensures.err

pub loop-turn-preserved : goal.loop-turn-preserved
loop-turn-preserved g c = record {
  turns = turns_more _ _ _ _ _ _ _ _ _ _ _ _ c.loop-turn.invariant.turns c.in_default-turn.ensures.ok;
  waiting = c.in_default-turn.ensures.waiting;
  calls = c.turn.ensures.calls ∙ ap (λ n. counted n 1) c.loop-turn.invariant.calls ∙ counted_more _ _;
  unfailed = c.in_default-turn.ensures.read_failed ∙ c.loop-turn.invariant.unfailed;
  fine = c.in_default-turn.ensures.write_failed ∙ c.loop-turn.invariant.fine;
}

-- so many reads came to no end
pub returns-clause-conversation : goal.returns-clause-conversation
returns-clause-conversation g c = converses_on _ _ _ _ c.loop-turn.framer _ _ _ _ _ c.open.ensures.emptied c.in_default.ensures.ok c.loop-turn.invariant.waiting c.loop-turn.invariant.turns
