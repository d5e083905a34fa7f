use Rattle.std.proofs.Common.{◌∙◌, ◌+◌, ◌-◌, ◌<◌, sym, ap, cond, [], length, get_or, rules}
use Rattle.cbsp_ie.specs.CellId.{names}
use Rattle.cbsp_ie.specs.declared.cell_id.CellId.TheVariants.{Global}
use Rattle.cbsp_ie.specs.declared.fail_entry.FailEntry.{FailEntry}
use Rattle.centre_events.proofs.PlaceLemmas.{place_before}
use Rattle.centre_events.proofs.last_places.LastPlaces.of_failures.Goals as goal

pub loop-behind-preserved : goal.loop-behind-preserved
loop-behind-preserved c =
    let fs = c.args.failures.now in
    let behind = c.loop-behind.behind in
    let none : FailEntry = record { id = Global [] 0 0; cause = record { 0 = 0 } } in
    let left : behind < length fs = search rules in
    λ d.
    c.in_ok-put.ensures d ∙ ap (λ n. cond (names c.args.network (get_or fs (length fs - 1 - behind) none).id d) (behind + 1) n) (c.loop-behind.invariant d)
    ∙ sym (place_before (λ (f : FailEntry). names c.args.network f.id d) fs behind none left)
