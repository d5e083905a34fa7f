use Rattle.std.proofs.Common.{rules, arith}
use Rattle.std.specs.Option.{option_copied}
use Rattle.std.proofs.lemmas.Grind.{common_steps}
use Rattle.warning_book.specs.Book.{kind_of}
use Rattle.centre_events.specs.Warnings.{serials}
use Rattle.centre_events.proofs.SteppedLemmas.{quiet_left}
use Rattle.centre_events.proofs.stepping.step_line.Goals as goal

pub returns-in_default-clause-line : goal.returns-in_default-clause-line
returns-in_default-clause-line c = quiet_left (kind_of c.args.w.now) c.args.b c.args.c c.args.w.now.message_id c.args.h.now.event.now c.args.h.now.answer.now c.args.h.now.up (option_copied c.args.h.now.flight) c.args.warnings.now c.args.line.now (serials c.args.w.now) (grind (arith, common_steps))

pub returns-in_default-2-clause-line : goal.returns-in_default-2-clause-line
returns-in_default-2-clause-line c = quiet_left (kind_of c.args.w.now) c.args.b c.args.c c.args.w.now.message_id c.args.h.now.event.now c.args.h.now.answer.now c.args.h.now.up (option_copied c.args.h.now.flight) c.args.warnings.now c.args.line.now (serials c.args.w.now) (grind (arith, common_steps))

pub returns-in_default-3-clause-line : goal.returns-in_default-3-clause-line
returns-in_default-3-clause-line c = quiet_left (kind_of c.args.w.now) c.args.b c.args.c c.args.w.now.message_id c.args.h.now.event.now c.args.h.now.answer.now c.args.h.now.up (option_copied c.args.h.now.flight) c.args.warnings.now c.args.line.now (serials c.args.w.now) (grind (arith, common_steps))

pub returns-in_default-4-clause-line : goal.returns-in_default-4-clause-line
returns-in_default-4-clause-line c = quiet_left (kind_of c.args.w.now) c.args.b c.args.c c.args.w.now.message_id c.args.h.now.event.now c.args.h.now.answer.now c.args.h.now.up (option_copied c.args.h.now.flight) c.args.warnings.now c.args.line.now (serials c.args.w.now) (grind (arith, common_steps))

pub returns-in_default-5-clause-line : goal.returns-in_default-5-clause-line
returns-in_default-5-clause-line c = quiet_left (kind_of c.args.w.now) c.args.b c.args.c c.args.w.now.message_id c.args.h.now.event.now c.args.h.now.answer.now c.args.h.now.up (option_copied c.args.h.now.flight) c.args.warnings.now c.args.line.now (serials c.args.w.now) (grind (arith, common_steps))

pub returns-in_default-6-clause-line : goal.returns-in_default-6-clause-line
returns-in_default-6-clause-line c = quiet_left (kind_of c.args.w.now) c.args.b c.args.c c.args.w.now.message_id c.args.h.now.event.now c.args.h.now.answer.now c.args.h.now.up (option_copied c.args.h.now.flight) c.args.warnings.now c.args.line.now (serials c.args.w.now) (search rules)
