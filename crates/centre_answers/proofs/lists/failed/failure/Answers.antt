use Rattle.centre_past.proofs.ReadLemmas.{as_read}
use Rattle.centre_answers.proofs.lists.failed.failure.Goals as goal

pub returns-then-eq-clause-kept : goal.returns-then-eq-clause-kept
returns-then-eq-clause-kept c = λ t same. as_read t c.args.tables.now c.read_line.new.self same c.read_line.ensures.same c.read_line.ensures.lines c.read_line.ensures.downs c.read_line.ensures.least

pub returns-in-Some-clause-kept : goal.returns-in-Some-clause-kept
returns-in-Some-clause-kept c = λ t same. as_read t c.args.tables.now c.read_line.new.self same c.read_line.ensures.same c.read_line.ensures.lines c.read_line.ensures.downs c.read_line.ensures.least

pub returns-in-None-clause-kept : goal.returns-in-None-clause-kept
returns-in-None-clause-kept c = λ t same. as_read t c.args.tables.now c.read_line.new.self same c.read_line.ensures.same c.read_line.ensures.lines c.read_line.ensures.downs c.read_line.ensures.least
