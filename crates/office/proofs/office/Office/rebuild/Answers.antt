use Rattle.std.proofs.Common.{rules}
use Rattle.office.proofs.OfficeLemmas.{rebuilt_if}
use Rattle.office.proofs.office.Office.rebuild.Goals as goal

pub returns-clause-rebuilt : goal.returns-clause-rebuilt
returns-clause-rebuilt g c = rebuilt_if c.deref_mut.result.now c.rebuild.new.self c.args.desk.now (search rules) (search rules) (search rules) c.in_ok-rebuild.ensures.rebuilt
