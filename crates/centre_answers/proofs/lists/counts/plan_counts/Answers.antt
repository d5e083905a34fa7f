use Rattle.std.proofs.Common.{◌≡◌, ◌∙◌, ap, count_by, length}
use Rattle.cell_register.specs.Register.{State}
use Rattle.centre_events.specs.Links.{is_up}
use Rattle.centre_events.specs.Warnings.{warnings_of}
use Rattle.centre_past.proofs.AreaLemmas.{areas_counted}
use Rattle.centre_past.proofs.ListLemmas.{bscs_listed}
use Rattle.centre_past.proofs.RegisterLemmas.{bscs_counted, cells_counted}
use Rattle.centre_past.specs.Lists.{registered_bscs}
use Rattle.centre_answers.proofs.lists.counts.plan_counts.Goals as goal

pub returns : goal.returns
returns c = λ past kept.
    let sound = c.tell_soundness.ensures in
    let bscs = ap length c.bscs.ensures ∙ ap (λ (r : State). length r.bscs) c.register-register.ensures ∙ bscs_counted past c.args.kept.now.plan.register sound.registered kept.registered in
    let cells = c.cell_count.ensures ∙ ap (λ (r : State). length r.cells) c.register-register.ensures ∙ cells_counted past c.args.kept.now.plan.register sound.registered kept.registered in
    let areas = ap length (c.as_slice.ensures ∙ c.areas.ensures) ∙ areas_counted past c.args.kept.now.plan.areas sound.areas_ascend kept.selected in
    let listed : c.bscs-2.result.now ≡ registered_bscs past = c.bscs-2.ensures ∙ ap (λ (r : State). r.bscs) c.register-register.ensures ∙ bscs_listed past c.args.kept.now.plan.register sound.registered kept.registered in
    let up : c.links_up.result ≡ count_by (is_up past) (registered_bscs past) =
    c.links_up.ensures ∙ (λ i. count_by (λ b. kept.linked.ups b i) (listed i)) in
    let warnings : c.len.result ≡ length (warnings_of past) = c.len.ensures ∙ ap (λ st. length st.warnings) (c.book-book.ensures ∙ kept.booked) in
    let active : c.active_count.result ≡ count_by (λ w. w.active) (warnings_of past) = c.active_count.ensures ∙ ap (count_by (λ w. w.active)) (c.as_slice-2.ensures ∙ ap (λ st. st.warnings) (c.book-book.ensures ∙ kept.booked)) in
    λ i. record { bscs = bscs i; links_up = up i; cells = cells i; areas = areas i; warnings = warnings i; active = active i }
