use Rattle.centre_past.proofs.LawfulLemmas.{lawful_since}
use Rattle.centre_core.proofs.centre.Centre.tell_soundness.Goals as goal

pub returns-clause-legal : goal.returns-clause-legal
returns-clause-legal c = rw (← c.self.view_is) (lawful_since c.self.inside.settings c.self.inside.journal.folded c.self.inside.journal.entries c.self.invariant.long c.self.invariant.legal)
