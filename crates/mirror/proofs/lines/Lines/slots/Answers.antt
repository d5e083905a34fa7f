use Rattle.std.proofs.Common.{sym}
use Rattle.mirror.proofs.LinesLemmas.{lines_whole, slots_same}
use Rattle.mirror.proofs.lines.Lines.slots.Goals as goal

pub returns-clause-slots : goal.returns-clause-slots
returns-clause-slots c = rw (← c.self.view_is) (sym (slots_same c.self.inside.order.keys c.self.inside.kept.entries))

pub returns-clause-lines : goal.returns-clause-lines
returns-clause-lines c = rw (← c.self.view_is) (lines_whole c.self.inside.order.keys c.self.inside.kept.entries c.self.invariant)
