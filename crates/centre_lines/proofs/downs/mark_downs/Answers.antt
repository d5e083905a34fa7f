use Rattle.std.proofs.Common.{arith}
use Rattle.mirror.specs.Table.{down_at}
use Rattle.centre_lines.proofs.FollowLemmas.{downs_more, lines_trans}
use Rattle.centre_lines.proofs.downs.mark_downs.Goals as goal

pub loop-spot-preserved : goal.loop-spot-preserved
loop-spot-preserved c = (
  λ k d e. downs_more c.args.event.now c.args.answer.now c.args.spots.now c.loop-spot.spot-index c.spot-item.result k d e (down_at c.args.tables.now.lines k d e) (down_at c.loop-spot.tables.lines k d e) (down_at c.mark_down.new.tables.lines k d e) (omega arith) c.spot-item.is (c.loop-spot.invariant.0 k d e) (c.in_ok-mark_down.ensures.downs k d e),
  lines_trans c.args.tables.now c.loop-spot.tables c.mark_down.new.tables c.loop-spot.invariant.1 c.mark_down.ensures.lines,
)
