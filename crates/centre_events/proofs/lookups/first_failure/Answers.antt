use Rattle.std.proofs.Common.{◌≡◌, ◌-◌, ◌∙◌, ap, length, arith}
use Rattle.std.specs.Prelude.{slice_get}
use Rattle.std.specs.Option.{option_copied}
use Rattle.std.proofs.lemmas.Grind.{common_steps}
use Rattle.std.proofs.lemmas.Option.{gets}
use Rattle.cbsp_ie.specs.CellId.{names}
use Rattle.cbsp_ie.specs.declared.fail_entry.FailEntry.{FailEntry}
use Rattle.centre_events.proofs.PlaceLemmas.{found_there}
use Rattle.centre_events.proofs.lookups.first_failure.Goals as goal

pub returns : goal.returns
returns c =
    let fs = c.args.failures.now in
    let read : option_copied c.get.result ≡ slice_get fs c.saturating_sub.result = grind (arith, common_steps, gets) in
    λ network placed.
    read ∙ ap (slice_get fs) c.saturating_sub.ensures ∙ ap (λ n. slice_get fs (length fs - n)) (c.of_cell.ensures ∙ placed c.args.c) ∙ found_there (λ (f : FailEntry). names network f.id c.args.c) fs
