use Rattle.std.proofs.Common.{rules}
use Rattle.office.proofs.OfficeLemmas.{folded_if}
use Rattle.office.proofs.office.Office.checkpoint.Goals as goal

pub returns-clause-folded : goal.returns-clause-folded
returns-clause-folded g c = folded_if c.checkpoint-result.result c.deref_mut.result.now.centre c.checkpoint-result.new.self.centre (search rules) (search rules) c.checkpoint-result.ensures.counted (search rules) c.checkpoint-result.ensures.same c.checkpoint-result.ensures.whole
