use Rattle.std.proofs.Common.{◌≡◌, true, ◌∙◌, sym}
use Rattle.centre_events.proofs.SteppedLemmas.{same_at}
use Rattle.centre_events.specs.Effects.{state_after}
use Rattle.mirror.specs.Blank.{state_eq}
use Rattle.mirror.specs.Line.{state_of}
use Rattle.mirror.specs.declared.key_state.KeyState.{KeyState}
use Rattle.centre_events.proofs.stepping.step.Goals as goal

pub returns-then-same-clause-line : goal.returns-then-same-clause-line
returns-then-same-clause-line c =
    let then : KeyState = state_after c.args.effect c.args.count (state_of c.args.line.now c.args.serial) in
    let same : state_eq then (state_of c.args.line.now c.args.serial) ≡ true = sym (rw (c.state_after-after.ensures, c.state-state.ensures) at c.same.ensures) ∙ c.if-same.true in
    sym (same_at c.args.line.now c.args.serial then same)
