use Rattle.std.proofs.Common.{◌∙◌, sym}
use Rattle.centre_core.proofs.FoldedLemmas.{full_is}
use Rattle.centre_core.proofs.centre.Centre.is_full.Goals as goal

pub returns : goal.returns
returns c = rw (← c.self.view_is) (c.is_full.ensures ∙ sym (full_is c.self.inside.settings c.self.inside.journal.folded c.self.inside.journal.entries))
