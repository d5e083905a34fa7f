use Rattle.std.proofs.Common.{◌≡◌, ◌∙◌, rules}
use Rattle.mirror.proofs.TableLemmas.{line_by_slot}
use Rattle.mirror.specs.Table.{has_line}
use Rattle.mirror.proofs.line_table.LineTable.is_known.Goals as goal

pub returns-else-is_down_for_some : goal.returns-else-is_down_for_some
returns-else-is_down_for_some c =
    let there : c.has_line.result ≡ has_line c.args.self.now c.args.b c.args.c = (rw c.slots.ensures at c.has_line.ensures) ∙ rw (← c.self.view_is) (line_by_slot c.args.b c.args.c c.self.inside.index c.self.inside.lines c.self.invariant.none_blank c.self.invariant.indexed) in
    search (rules, there)
