use Rattle.std.proofs.Common.{◌≡◌, ◌∙◌, ◌++◌, false, ap, sym}
use Rattle.centre_core.proofs.ListingLemmas.{counts_if}
use Rattle.centre_events.specs.Past.{past_of}
use Rattle.centre_past.specs.Legal.{CentreState, past}
use Rattle.centre_past.specs.Lists.{plan_counts}
use Rattle.centre_core.proofs.centre.Centre.counts.Goals as goal

pub returns : goal.returns
returns c =
    let told : c.args.self.now.known.stale ≡ false = sym c.is_stale.ensures ∙ c.if-is_stale.false in
    let whole : c.self.inside.stale ≡ false = ap (λ (v : CentreState). v.known.stale) c.self.view_is ∙ told in
    let same : c.plan_counts.result ≡ plan_counts (past c.args.self.now.known) =
    rw (← c.self.view_is) (c.plan_counts.ensures (past_of (c.self.inside.journal.folded ++ c.self.inside.journal.entries)) (c.self.invariant.whole whole) ∙ sym c.tell_over.ensures.counts) in
    counts_if c.args.self.now.known.stale c.plan_counts.result (plan_counts (past c.args.self.now.known)) told same
