use Rattle.journal_office.proofs.EnteringLemmas.{left_if, takes_if}
use Rattle.journal_office.proofs.entering.EnteringTakeLine.take_line.Goals as goal

pub invariant_of-self : goal.invariant_of-self
invariant_of-self g c = takes_if _ _ _ _ _ _ _ c.deref_mut.ensures.value c.self.invariant c.in-Ok.ensures c.then-self-inside.ensures c.in-Ok-take_line.ensures.taken

pub invariant_of-self-in-Err : goal.invariant_of-self-in-Err
invariant_of-self-in-Err g c = left_if _ _ _ _ c.deref_mut.ensures.value c.self.invariant c.in-Err.ensures.left
