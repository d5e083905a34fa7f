use Rattle.std.proofs.Common.{◌∙◌}
use Rattle.centre_past.proofs.ListLemmas.{selectors_listed}
use Rattle.centre_answers.proofs.lists.named_areas.selectors.Goals as goal

pub returns : goal.returns
returns c = λ past tied.
    c.from_vec.ensures ∙ c.in_ok-selectors.ensures.items ∙ c.selectors_of.ensures.selectors
    ∙ selectors_listed past c.args.areas.now c.args.a.now c.tell_soundness.ensures.ordered tied
