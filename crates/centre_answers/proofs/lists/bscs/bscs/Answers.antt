use Rattle.std.proofs.Common.{◌∙◌, ap, map}
use Rattle.cell_register.specs.Register.{State}
use Rattle.centre_past.proofs.ListLemmas.{bscs_listed}
use Rattle.centre_past.specs.Lists.{bsc_row}
use Rattle.centre_answers.proofs.lists.bscs.bscs.Goals as goal

pub returns : goal.returns
returns c = λ settings past legal kept.
    c.from_vec.ensures
    ∙ c.in_ok-rows.ensures settings past legal kept
    ∙ ap (map (bsc_row past)) (c.bscs.ensures ∙ ap (λ (r : State). r.bscs) c.register.ensures ∙ bscs_listed past c.args.kept.now.plan.register c.tell_soundness.ensures.registered kept.registered)
