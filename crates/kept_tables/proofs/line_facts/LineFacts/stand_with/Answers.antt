use Rattle.mirror.specs.Line.{state_of}
use Rattle.kept_tables.proofs.line_facts.LineFacts.stand_with.Goals as goal

pub returns-clause-stand : goal.returns-clause-stand
returns-clause-stand c = λ i. record {
  seen = c.sight_with.ensures.seen i;
  counts = λ s. (state_of (c.sight_with.ensures.line i) s).count;
  areas = c.lent.ensures i;
  here = c.args.self.now.here;
  active = c.args.self.now.active;
}
