use Rattle.mirror.proofs.KeptLemmas.{none_kept, some_kept, one_kept}
use Rattle.mirror.proofs.line_table.LineTable.tell_soundness.Goals as goal

pub returns-clause-none : goal.returns-clause-none
returns-clause-none c b d h = none_kept b d _ h

pub returns-clause-some : goal.returns-clause-some
returns-clause-some c b d w h = some_kept b d w _ h

pub returns-clause-which : goal.returns-clause-which
returns-clause-which c = rw (← c.self.view_is) (λ b d h. one_kept b d _ c.self.invariant.none_blank h)
