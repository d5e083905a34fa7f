use Rattle.std.proofs.Common.{sym, ◌∙◌}
use Rattle.mirror.specs.Seen.{seen}
use Rattle.order_maker.proofs.KillLemmas.{kill_put, none_put}
use Rattle.order_maker.proofs.ShiftLemmas.{put_next}
use Rattle.order_maker.proofs.pending.Pending.put_kills.Goals as goal
use Rattle.order_maker.proofs.pending.Pending.put_kills.Goals.{then-is_to_kill+in_ok-put, else-is_to_kill}

pub loop-serial-preserved : goal.loop-serial-preserved
loop-serial-preserved c =
    let v = seen c.args.line.now.sight.now in
    elim c.if-is_to_kill.branch [
      | then-is_to_kill+in_ok-put w ↦
          rw w.self-is (put_next c.args.b c.args.c v c.args.versions.now c.loop-serial.serial-index c.serial-item.result c.args.self.now c.loop-serial.self w.put.new.self c.loop-serial-test.true c.serial-item.is c.loop-serial.invariant (kill_put c.args.b c.args.c v c.serial-item.result c.loop-serial.self w.put.new.self (sym c.is_to_kill.ensures ∙ w.if-is_to_kill.true) (rw (w.in_cell.ensures, w.kill.ensures) at w.in_ok-put.ensures)))
      | else-is_to_kill w ↦
          rw w.self-is (put_next c.args.b c.args.c v c.args.versions.now c.loop-serial.serial-index c.serial-item.result c.args.self.now c.loop-serial.self c.loop-serial.self c.loop-serial-test.true c.serial-item.is c.loop-serial.invariant (none_put c.args.b c.args.c v c.serial-item.result c.loop-serial.self (sym c.is_to_kill.ensures ∙ w.if-is_to_kill.false)))
    ]
