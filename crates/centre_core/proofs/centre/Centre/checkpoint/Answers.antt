use Rattle.std.proofs.Common.{◌≡◌, ◌++◌, false, rules}
use Rattle.centre_core.proofs.CentreLemmas.{centre_folded, centre_reads, folded_same}
use Rattle.centre_core.specs.Centre.{past_over}
use Rattle.centre_events.specs.Past.{past_of}
use Rattle.centre_past.proofs.AlikeLemmas.{says_the_same}
use Rattle.centre_core.proofs.centre.Centre.checkpoint.Goals as goal

pub invariant_of-self : goal.invariant_of-self
invariant_of-self c = rw (c.in_err-fold.ensures.unchanged, c.in_err-fold.ensures.uncounted) c.self.invariant

pub invariant_of-self-2 : goal.invariant_of-self-2
invariant_of-self-2 c =
    let whole : c.self.inside.stale ≡ false = search rules in
    centre_folded (centre_reads c.self.invariant c.in_ok-fold.ensures.reads) c.clear.ensures.folded c.clear.ensures.entries
    (c.in_ok-fold.ensures.base (past_of (c.self.inside.journal.folded ++ c.self.inside.journal.entries)) (c.self.invariant.whole whole))

pub returns-clause-same : goal.returns-clause-same
returns-clause-same c = rw (← c.self.view_is) (folded_same c.self.inside.journal.folded c.self.inside.journal.entries c.clear.ensures.folded c.clear.ensures.entries)

pub returns-clause-says : goal.returns-clause-says
returns-clause-says c =
    rw (← c.self.view_is) (says_the_same (past_over c.clear.new.self.folded c.clear.new.self.entries) (past_over c.self.inside.journal.folded c.self.inside.journal.entries) (folded_same c.self.inside.journal.folded c.self.inside.journal.entries c.clear.ensures.folded c.clear.ensures.entries))
