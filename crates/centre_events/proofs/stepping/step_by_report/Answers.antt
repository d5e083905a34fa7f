use Rattle.std.proofs.Common.{arith}
use Rattle.std.specs.Option.{option_copied}
use Rattle.std.proofs.lemmas.Grind.{common_steps}
use Rattle.warning_book.specs.Book.{kind_of}
use Rattle.centre_events.specs.Warnings.{serials}
use Rattle.centre_events.proofs.SteppedLemmas.{silent_left}
use Rattle.centre_events.proofs.stepping.step_by_report.Goals as goal

pub returns-in-None-clause-line : goal.returns-in-None-clause-line
returns-in-None-clause-line c = silent_left (kind_of c.args.w.now) c.args.message.now c.args.answer.now (option_copied c.args.flight) c.args.c c.args.w.now.message_id c.args.line.now (serials c.args.w.now) (grind (arith, common_steps))

pub returns-in_default-clause-line : goal.returns-in_default-clause-line
returns-in_default-clause-line c = silent_left (kind_of c.args.w.now) c.args.message.now c.args.answer.now (option_copied c.args.flight) c.args.c c.args.w.now.message_id c.args.line.now (serials c.args.w.now) (grind (arith, common_steps))

pub returns-in_default-2-clause-line : goal.returns-in_default-2-clause-line
returns-in_default-2-clause-line c = silent_left (kind_of c.args.w.now) c.args.message.now c.args.answer.now (option_copied c.args.flight) c.args.c c.args.w.now.message_id c.args.line.now (serials c.args.w.now) (grind (arith, common_steps))
