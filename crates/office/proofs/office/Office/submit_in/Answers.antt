use Rattle.std.proofs.Common.{length, rules}
use Rattle.office.proofs.OfficeLemmas.{refused_if, submitted_if}
use Rattle.office.proofs.SendingLemmas.{cause_if, enters_on}
use Rattle.office.proofs.office.Office.submit_in.Goals as goal

pub returns-clause-submitted : goal.returns-clause-submitted
returns-clause-submitted g c = submitted_if c.submit-result.result c.args.held.now.centre c.submit-result.new.self.centre (length c.args.held.now.rows) c.args.desk.now c.prepared.new.desk c.submit-result.new.desk c.args.event (search rules) (search rules) c.prepared.ensures.same c.submit-result.ensures.fitted c.submit-result.ensures.entered

pub returns-clause-refused : goal.returns-clause-refused
returns-clause-refused g c = refused_if c.submit-result.result c.args.held.now.centre (length c.args.held.now.rows) c.args.desk.now c.prepared.new.desk c.args.event (search rules) (search rules) c.prepared.ensures.same c.submit-result.ensures.wrong c.submit-result.ensures.refused

pub returns-clause-entered : goal.returns-clause-entered
returns-clause-entered g c = enters_on c.submit-result.result c.args.event c.args.held.now c.args.desk.now c.prepared.new.desk c.submit-result.new.self c.submit-result.new.desk c.prepared.ensures.same c.submit-result.ensures.fitted c.submit-result.ensures.entered c.submit-result.ensures.counted

pub returns-clause-cause : goal.returns-clause-cause
returns-clause-cause g c = cause_if c.submit-result.result c.args.event c.args.held.now c.args.desk.now c.prepared.new.desk c.prepared.ensures.same c.submit-result.ensures.wrong c.submit-result.ensures.refused
