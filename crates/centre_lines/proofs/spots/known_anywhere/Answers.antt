use Rattle.std.proofs.Common.{◌∙◌, ap, ltb, rules}
use Rattle.common.specs.Order.{is_ascending}
use Rattle.centre_past.proofs.SpotLemmas.{known_next}
use Rattle.centre_lines.proofs.spots.known_anywhere.Goals as goal

pub loop-bsc-preserved : goal.loop-bsc-preserved
loop-bsc-preserved c =
    known_next c.args.tables.now c.args.register.now c.bscs-bscs.result.now c.loop-bsc.bsc-index c.bsc-item.result _ c.loop-bsc.spots.items c.add_spots.new.spots.items (ap (is_ascending ltb) c.bscs-bscs.ensures ∙ c.tell_soundness.ensures.bscs_ascend) c.loop-bsc-test.true c.bsc-item.is c.loop-bsc.invariant c.in_ok-cells.ensures.order c.in_ok-cells.ensures.known (search rules)
