use Rattle.mirror.proofs.CountLemmas.{lines_few}
use Rattle.mirror.proofs.line_table.LineTable.tell_line_count.Goals as goal

pub returns : goal.returns
returns c = rw (← c.self.view_is) (λ b w cells all. lines_few c.self.inside.lines c.tell_order.ensures c.self.invariant.none_blank b w cells all)
