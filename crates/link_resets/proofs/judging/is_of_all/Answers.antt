use Rattle.std.proofs.Common.{rules}
use Rattle.link_resets.proofs.JudgeLemmas.{lists_other, lists_some}
use Rattle.link_resets.proofs.judging.is_of_all.Goals as goal

-- another element, or none
pub returns-in_default : goal.returns-in_default
returns-in_default c = lists_other c.args.plmn c.args.cells.now c.args.body.now c.read_element.result (search rules) c.read_element.ensures.only (search rules)

pub returns-in_default-2 : goal.returns-in_default-2
returns-in_default-2 c = lists_other c.args.plmn c.args.cells.now c.args.body.now c.read_element.result (search rules) c.read_element.ensures.only (search rules)

-- a list
pub returns : goal.returns
returns c =
    lists_some c.args.plmn c.args.cells.now c.args.body.now c.in-Ok-CellList-default.list c.in-Ok-CellList-default.field-0-1 c.are_named.result c.read_element.result (search rules)
    c.read_element.ensures.only (search rules) (search rules) (search rules)
