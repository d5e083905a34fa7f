use Rattle.std.proofs.Common.{◌++◌}
use Rattle.centre_core.proofs.ListingLemmas.{failed_count}
use Rattle.centre_events.specs.Past.{past_of}
use Rattle.centre_past.specs.Alike.{SaysTheSame}
use Rattle.centre_past.specs.Legal.{lasting, past}
use Rattle.centre_core.proofs.centre.Centre.failed_of.Goals as goal

pub returns-clause-count : goal.returns-clause-count
returns-clause-count c =
    let same : SaysTheSame (past c.args.self.now.known) (past_of (c.self.inside.journal.folded ++ c.self.inside.journal.entries)) = rw (← c.self.view_is) c.tell_over.ensures in
    failed_count (lasting c.self.inside.settings.network) (past c.args.self.now.known) (past_of (c.self.inside.journal.folded ++ c.self.inside.journal.entries)) c.args.number c.failed_rows.result c.self.invariant.legal same c.failed_rows.ensures.rows
