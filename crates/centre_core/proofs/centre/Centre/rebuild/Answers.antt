use Rattle.centre_past.specs.Legal.{lasting}
use Rattle.centre_core.proofs.CentreLemmas.{centre_based, centre_rebuilt}
use Rattle.centre_core.proofs.MeterLemmas.{lines_since}
use Rattle.centre_core.proofs.centre.Centre.rebuild.Goals as goal

pub kept_of-requires-clause-legal : goal.kept_of-requires-clause-legal
kept_of-requires-clause-legal c = record { settings = lasting c.self.inside.settings.network; legal = c.self.invariant.legal }

pub invariant_of-self : goal.invariant_of-self
invariant_of-self c = centre_based c.self.invariant c.kept_of.ensures.folded c.kept_of.ensures.entries c.kept_of.ensures.base

pub invariant_of-self-2 : goal.invariant_of-self-2
invariant_of-self-2 c =
    rw c.begin.ensures (centre_rebuilt c.self.invariant c.kept_of.ensures.folded c.kept_of.ensures.entries c.kept_of.ensures.base c.in_ok-kept.ensures.kept)

pub returns-clause-lines : goal.returns-clause-lines
returns-clause-lines c = rw (← c.self.view_is, c.begin.ensures) (lines_since _ _ _ c.in_ok-kept.ensures.meter)
