use Rattle.std.proofs.Common.{sym, ◌∙◌}
use Rattle.mirror.specs.Seen.{seen}
use Rattle.order_maker.proofs.KillLemmas.{kill_taken, none_taken}
use Rattle.order_maker.proofs.ShiftLemmas.{take_next}
use Rattle.order_maker.proofs.pending.Pending.take_kills_out.Goals as goal
use Rattle.order_maker.proofs.pending.Pending.take_kills_out.Goals.{then-is_to_kill, else-is_to_kill}

pub loop-serial-preserved : goal.loop-serial-preserved
loop-serial-preserved c =
    let v = seen c.args.line.now.sight.now in
    elim c.if-is_to_kill.branch [
      | then-is_to_kill w ↦
          rw w.self-is (take_next c.args.b c.args.c v c.args.versions.now c.loop-serial.serial-index c.serial-item.result c.args.self.now c.loop-serial.self w.take_out.new.self c.loop-serial-test.true c.serial-item.is c.loop-serial.invariant (kill_taken c.args.b c.args.c v c.serial-item.result c.loop-serial.self w.take_out.new.self (sym c.is_to_kill.ensures ∙ w.if-is_to_kill.true) (rw (w.in_cell.ensures, w.kill.ensures) at w.take_out.ensures)))
      | else-is_to_kill w ↦
          rw w.self-is (take_next c.args.b c.args.c v c.args.versions.now c.loop-serial.serial-index c.serial-item.result c.args.self.now c.loop-serial.self c.loop-serial.self c.loop-serial-test.true c.serial-item.is c.loop-serial.invariant (none_taken c.args.b c.args.c v c.serial-item.result c.loop-serial.self (sym c.is_to_kill.ensures ∙ w.if-is_to_kill.false)))
    ]
