use Rattle.std.proofs.Common.{◌≡◌, ◌∙◌, None, Some, ap, map, rules, sym}
use Rattle.std.specs.List.{flat_map, list_any}
use Rattle.areas.specs.Areas.{selects, selectors_of}
use Rattle.centre_past.proofs.ListLemmas.{all_listed}
use Rattle.centre_past.proofs.ReadLemmas.{as_itself}
use Rattle.centre_past.specs.Lists.{failed_in}
use Rattle.centre_answers.proofs.ListLemmas.{covered_kept, failed_nowhere, wanted_parts}
use Rattle.centre_answers.proofs.lists.failed.failed_rows.Goals as goal

pub returns-in_default-clause-rows : goal.returns-in_default-clause-rows
returns-in_default-clause-rows c =
    let none : c.wanted_serial.result ≡ None = search rules in
    λ past tells downs registered tied found.
    c.from_vec.ensures ∙ c.new.ensures.items ∙ sym (failed_nowhere past c.args.w.now (sym c.wanted_serial.ensures ∙ none))

pub returns-clause-rows : goal.returns-clause-rows
returns-clause-rows c =
    let is : c.wanted_serial.result ≡ Some c.in-Some.serial = search rules in
    let parts = wanted_parts c.args.w.now c.in-Some.serial (sym c.wanted_serial.ensures ∙ is) in
    λ past tells downs registered tied found.
    c.from_vec-2.ensures
    ∙ c.in_ok-rows.ensures.rows past c.args.tables.now tells downs registered (as_itself c.args.tables.now)
    (record {
      found = found;
      active = parts.0;
      current = parts.1;
      covered = λ d. ap (list_any (λ s. selects s d)) (c.as_slice.ensures.value ∙ c.in_ok-coverages.ensures ∙ ap (map (selectors_of c.args.areas.now)) c.areas.ensures) ∙ covered_kept past c.args.areas.now c.args.w.now.areas d tied;
    })
    ∙ ap (flat_map (failed_in past c.args.w.now)) (c.as_slice-2.ensures ∙ c.in_ok-cells.ensures ∙ all_listed past c.args.register.now c.tell_soundness.ensures registered)
