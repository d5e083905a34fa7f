use Rattle.std.proofs.Common.{◌≡◌, ◌-◌, ◌<◌, ◌∙◌, ap, sym, arith}
use Rattle.std.specs.Prelude.{slice_get}
use Rattle.std.specs.Option.{option_copied, option_map}
use Rattle.std.proofs.lemmas.Bool.Decides.{nat_tests}
use Rattle.std.proofs.lemmas.Grind.{common_steps}
use Rattle.std.proofs.lemmas.Option.{gets}
use Rattle.cbsp_ie.specs.declared.count_entry.CountEntry.{CountEntry}
use Rattle.centre_events.specs.Counts.{gives_number}
use Rattle.centre_events.proofs.PlaceLemmas.{found_turned}
use Rattle.centre_events.proofs.lookups.last_number.Goals as goal

pub returns : goal.returns
returns c =
    let es = c.args.entries.now in
    let read : option_copied c.get.result ≡ slice_get es (c.of_cell-place.result - 1) = grind (arith, common_steps, gets) in
    let some : 0 < c.of_cell-place.result = grind (arith, nat_tests, common_steps) in
    λ network placed.
    c.number_given.ensures ∙ ap (option_map (λ (e : CountEntry). e.number)) (read ∙ found_turned (gives_number network c.args.c) es c.of_cell-place.result (sym (c.of_cell-place.ensures ∙ placed c.args.c)) some)
