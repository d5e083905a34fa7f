use Rattle.centre_past.specs.Legal.{past}
use Rattle.journal_office.proofs.TakingLemmas.{comes_if}
use Rattle.journal_office.proofs.start.event_in.Goals as goal

pub returns-clause-comes : goal.returns-clause-comes
returns-clause-comes g c = comes_if (past c.args.held.now.centre) c.args.request c.in_ok-generation.generation c.event_for.result c.in_ok-generation.ensures.generation c.event_for.ensures.event
