use Rattle.std.proofs.Common.{length, rules}
use Rattle.office.proofs.OfficeLemmas.{seen_if, unseen_if}
use Rattle.office.proofs.office.Office.look.Goals as goal

pub returns-clause-seen : goal.returns-clause-seen
returns-clause-seen g c = seen_if c.look-look.result c.deref_mut.result.now.centre (length c.deref_mut.result.now.rows) c.args.desk.now c.args.question (search rules) (search rules) c.look-look.ensures.fitted c.look-look.ensures.position c.look-look.ensures.seen

pub returns-clause-refused : goal.returns-clause-refused
returns-clause-refused g c = unseen_if c.look-look.result c.deref_mut.result.now.centre (length c.deref_mut.result.now.rows) c.args.desk.now c.args.question (search rules) (search rules) c.look-look.ensures.wrong c.look-look.ensures.refused
