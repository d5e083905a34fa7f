use Rattle.std.proofs.Common.{Some}
use Rattle.broadcast_watch.proofs.SilenceLemmas.{sets}
use Rattle.broadcast_watch.proofs.silences.Silences.put.Goals as goal

pub returns-clause-put : goal.returns-clause-put
returns-clause-put c =
    rw (← c.self.view_is) (sets c.args.version (Some c.args.spells.items) c.self.inside.messages.entries c.insert.new.self.entries (λ q. rw (c.of.ensures, c.from_vec-spells.ensures) at (c.in_ok-insert.ensures.updates.0 q)))
