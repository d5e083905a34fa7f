use Rattle.std.proofs.Common.{◌&&◌, ◌||◌, ◌∙◌, ap, sym}
use Rattle.std.specs.List.{list_any}
use Rattle.common.specs.Cell.{cell_eq}
use Rattle.mirror.proofs.OwnLemmas.{one_gathered}
use Rattle.mirror.proofs.named_set.add_if.Goals as goal

pub returns-in_ok-insert : goal.returns-in_ok-insert
returns-in_ok-insert c = λ d.
    one_gathered c.args.c c.args.cells.now.keys c.insert.new.self.keys c.in_ok-insert.ensures.updates.0 d
    ∙ ap (λ t. (t && cell_eq c.args.c d) || list_any (cell_eq d) c.args.cells.now.keys) (sym c.if-is_so.true)
