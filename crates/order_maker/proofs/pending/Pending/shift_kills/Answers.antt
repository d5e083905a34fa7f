use Rattle.std.proofs.Common.{Bool, ◌∙◌, nat_eq, ◌&&◌}
use Rattle.mirror.specs.Seen.{seen}
use Rattle.order_maker.proofs.KillLemmas.{kill_step, other_turned, same_turned, turned}
use Rattle.order_maker.specs.Actions.{deed, in_cell}
use Rattle.order_maker.specs.Pending.{action_eq, holds}
use Rattle.order_maker.specs.declared.action.Action.{Action}
use Rattle.order_maker.specs.declared.order_kind.OrderKind.TheVariants.{Kill}
use Rattle.order_maker.proofs.pending.Pending.shift_kills.Goals as goal
use Rattle.order_maker.proofs.pending.Pending.shift_kills.Goals.{then-is_to_kill-comes+in_ok-shift_kill, else-is_to_kill-comes}

pub loop-serial-preserved : goal.loop-serial-preserved
loop-serial-preserved c =
    let v = seen c.args.before.now.sight.now in
    let w = seen c.args.after.now.sight.now in
    let k : Bool = c.is_to_kill.result in
    let l : Bool = c.is_to_kill-comes.result in
    let kill : Action = in_cell c.args.c (deed w Kill c.serial-item.result) in
    elim c.if-is_to_kill-comes.branch [
      | then-is_to_kill-comes+in_ok-shift_kill t ↦
          rw t.self-is (kill_step c.args.b c.args.c v w c.args.versions.now c.loop-serial.serial-index c.serial-item.result c.args.self.now c.loop-serial.self t.shift_kill.new.self c.requires.message c.loop-serial-test.true c.serial-item.is c.requires.there c.loop-serial.invariant
          (λ d x. (rw (t.in_cell.ensures, t.kill.ensures) at t.in_ok-shift_kill.ensures) d x
          ∙ other_turned k l t.if-is_to_kill-comes.true (nat_eq d c.args.b && action_eq x kill) (holds c.loop-serial.self d x)
          ∙ (λ i. turned (c.is_to_kill.ensures i) (c.is_to_kill-comes.ensures i) (nat_eq d c.args.b && action_eq x kill) (holds c.loop-serial.self d x))))
      | else-is_to_kill-comes t ↦
          rw t.self-is (kill_step c.args.b c.args.c v w c.args.versions.now c.loop-serial.serial-index c.serial-item.result c.args.self.now c.loop-serial.self c.loop-serial.self c.requires.message c.loop-serial-test.true c.serial-item.is c.requires.there c.loop-serial.invariant
          (λ d x. same_turned k l t.if-is_to_kill-comes.false (nat_eq d c.args.b && action_eq x kill) (holds c.loop-serial.self d x)
          ∙ (λ i. turned (c.is_to_kill.ensures i) (c.is_to_kill-comes.ensures i) (nat_eq d c.args.b && action_eq x kill) (holds c.loop-serial.self d x))))
    ]
