use Rattle.std.proofs.Common.{◌∙◌, sym}
use Rattle.mirror.proofs.LinesLemmas.{as_many_lines}
use Rattle.mirror.proofs.lines.Lines.count.Goals as goal

pub returns : goal.returns
returns c = rw (← c.self.view_is) (c.len.ensures.len ∙ sym (as_many_lines c.self.inside.order.keys c.self.inside.kept.entries))
