use Rattle.std.proofs.Common.{None}
use Rattle.broadcast_watch.proofs.SilenceLemmas.{sets}
use Rattle.broadcast_watch.proofs.silences.Silences.take_out.Goals as goal

pub returns : goal.returns
returns c =
    rw (← c.self.view_is) (sets c.args.version None c.self.inside.messages.entries c.remove.new.self.entries (λ q. rw c.of.ensures at (c.remove.ensures.updates.0 q)))
