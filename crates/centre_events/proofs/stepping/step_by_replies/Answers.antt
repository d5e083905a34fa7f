use Rattle.std.proofs.Common.{rules, arith}
use Rattle.std.proofs.lemmas.Grind.{common_steps}
use Rattle.centre_events.specs.Warnings.{serials}
use Rattle.centre_events.proofs.SteppedLemmas.{replied_left, unsaid_left}
use Rattle.centre_events.proofs.stepping.step_by_replies.Goals as goal

pub returns-then-id_of-message_id-clause-line : goal.returns-then-id_of-message_id-clause-line
returns-then-id_of-message_id-clause-line c = replied_left c.args.flight.now c.args.replies.now c.args.c c.args.w.now.message_id c.args.line.now (serials c.args.w.now) (grind (arith, common_steps))

pub returns-in_default-clause-line : goal.returns-in_default-clause-line
returns-in_default-clause-line c = replied_left c.args.flight.now c.args.replies.now c.args.c c.args.w.now.message_id c.args.line.now (serials c.args.w.now) (grind (arith, common_steps))

pub returns-in-None-clause-line : goal.returns-in-None-clause-line
returns-in-None-clause-line c = unsaid_left c.args.flight.now c.args.replies.now c.args.c c.args.w.now.message_id c.args.line.now (serials c.args.w.now) (search rules)
