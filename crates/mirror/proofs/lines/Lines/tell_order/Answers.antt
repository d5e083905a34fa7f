use Rattle.mirror.proofs.LinesLemmas.{slots_same}
use Rattle.mirror.proofs.lines.Lines.tell_order.Goals as goal

pub returns : goal.returns
returns c = rw (← c.self.view_is, slots_same c.self.inside.order.keys c.self.inside.kept.entries) c.len.ensures.ordered
