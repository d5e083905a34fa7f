use Rattle.journal_office.proofs.EnteringLemmas.{starts_if, stops_if}
use Rattle.journal_office.proofs.entering.Entering.enter_file.Goals as goal

pub returns-clause-ok : goal.returns-clause-ok
returns-clause-ok g c = starts_if c.load-result.result c.args.heading _ _ c.args.self.now c.load-result.new.taker c.load-result.ensures.ok c.tell_soundness.ensures

pub returns-clause-err : goal.returns-clause-err
returns-clause-err g c = stops_if c.load-result.result c.args.heading _ _ c.args.self.now c.load-result.new.taker c.load-result.ensures.err c.tell_soundness.ensures
