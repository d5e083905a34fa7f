use Rattle.std.proofs.Common.{◌∙◌, ap, map}
use Rattle.centre_past.proofs.AreaLemmas.{selectors_counted}
use Rattle.centre_past.proofs.ListLemmas.{areas_listed}
use Rattle.centre_past.specs.Lists.{kept_row}
use Rattle.centre_answers.proofs.lists.named_areas.areas.Goals as goal

pub returns : goal.returns
returns c = λ past tied.
    c.from_vec.ensures
    ∙ c.in_ok-rows.ensures
    ∙ ap (map kept_row) c.as_slice.ensures
    ∙ areas_listed past c.args.areas.now c.tell_soundness.ensures.ascending (λ a. selectors_counted past c.args.areas.now a c.tell_soundness.ensures.once tied) tied
