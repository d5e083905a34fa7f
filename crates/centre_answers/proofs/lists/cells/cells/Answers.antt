use Rattle.std.proofs.Common.{◌∙◌, ap, map}
use Rattle.cell_register.specs.Register.{cells_of}
use Rattle.centre_past.proofs.ListLemmas.{cells_listed}
use Rattle.centre_past.specs.Lists.{cell_row}
use Rattle.centre_answers.proofs.lists.cells.cells.Goals as goal

pub returns : goal.returns
returns c = λ past kept.
    c.from_vec.ensures
    ∙ c.in_ok-rows.ensures past kept
    ∙ ap (map (cell_row past c.args.b)) (c.as_slice.ensures ∙ c.in_ok-cells.ensures ∙ ap (λ r. cells_of r c.args.b) c.register.ensures ∙ cells_listed past c.args.kept.now.plan.register c.args.b c.tell_soundness.ensures.registered kept.registered)
