use Rattle.std.proofs.Common.{◌≡◌, ◌++◌, Ok}
use Rattle.centre_events.specs.Past.{past_of}
use Rattle.centre_events.specs.Verdict.{verdict}
use Rattle.centre_core.proofs.CentreLemmas.{answered_all}
use Rattle.centre_past.proofs.ReadLemmas.{reads_kept}
use Rattle.centre_core.specs.Centre.{past_over}
use Rattle.centre_past.specs.Legal.{lasting}
use Rattle.centre_core.proofs.looking.prepare_other.Goals as goal

pub returns-in-Ok-clause-reached : goal.returns-in-Ok-clause-reached
returns-in-Ok-clause-reached c =
    λ centre.
    let given : verdict c.args.settings (past_over c.args.journal.now.folded c.args.journal.now.entries) c.args.event.now ≡ Ok c.in_ok-answer.answer = c.in_ok-answer.ensures.verdict centre in
    c.in-Ok.ensures.reached (lasting c.args.settings.network) (past_of (c.args.journal.now.folded ++ c.args.journal.now.entries)) centre.legal
    (reads_kept (past_of (c.args.journal.now.folded ++ c.args.journal.now.entries)) c.args.kept.now c.look_at_other.new.kept centre.kept c.look_at_other.ensures.reads)
    (answered_all c.args.settings c.args.journal.now.folded c.args.journal.now.entries c.args.event.now c.in_ok-answer.answer given)
