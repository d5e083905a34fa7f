use Rattle.office.proofs.OfficeLemmas.{lets_go_if}
use Rattle.office.proofs.office.Office.let_go.Goals as goal

pub returns : goal.returns
returns g c = lets_go_if c.release.result c.args.folded c.args.desk.now c.release.new.self c.release.ensures.released c.release.ensures.unchanged
