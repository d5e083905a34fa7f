use Rattle.std.proofs.Common.{arith}
use Rattle.std.specs.Option.{option_copied}
use Rattle.std.proofs.lemmas.Grind.{common_steps}
use Rattle.centre_events.specs.Warnings.{serials}
use Rattle.centre_events.proofs.SteppedLemmas.{lost_left}
use Rattle.centre_events.proofs.stepping.step_by_loss.Goals as goal

pub returns-in_default-clause-line : goal.returns-in_default-clause-line
returns-in_default-clause-line c = lost_left (option_copied c.args.flight) c.args.c c.args.w.now.message_id c.args.line.now (serials c.args.w.now) (grind (arith, common_steps))

pub returns-in_default-2-clause-line : goal.returns-in_default-2-clause-line
returns-in_default-2-clause-line c = lost_left (option_copied c.args.flight) c.args.c c.args.w.now.message_id c.args.line.now (serials c.args.w.now) (grind (arith, common_steps))

pub returns-in_default-3-clause-line : goal.returns-in_default-3-clause-line
returns-in_default-3-clause-line c = lost_left (option_copied c.args.flight) c.args.c c.args.w.now.message_id c.args.line.now (serials c.args.w.now) (grind (arith, common_steps))
