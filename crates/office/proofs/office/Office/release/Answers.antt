use Rattle.std.proofs.Common.{rules}
use Rattle.office.proofs.OfficeLemmas.{released_if}
use Rattle.office.proofs.office.Office.release.Goals as goal

pub returns : goal.returns
returns g c = released_if c.deref.result.now.centre c.folded-folded.result c.args.desk.now c.let_go.new.desk (search rules) (search rules) c.let_go.ensures
