use Rattle.std.proofs.Common.{rules}
use Rattle.office.proofs.OfficeLemmas.{same_more}
use Rattle.office.proofs.SendingLemmas.{same_if, sent_if, unsent_if}
use Rattle.office.proofs.office.Office.send_due.Goals as goal

pub returns-in-Some-send_due-clause-sent : goal.returns-in-Some-send_due-clause-sent
returns-in-Some-send_due-clause-sent g c =
    sent_if c.args.b c.args.generation c.deref_mut.result.now c.send_due.new.self c.args.desk.now c.release-folded.new.desk c.send_due.new.desk c.in-Some-send_due.result (search rules) (search rules)
    (same_more c.args.desk.now c.loop.desk c.release-folded.new.desk c.loop.invariant.same c.release-folded.ensures.same) c.in-Some-send_due.ensures

pub returns-in-Some-send_due-clause-unsent : goal.returns-in-Some-send_due-clause-unsent
returns-in-Some-send_due-clause-unsent g c =
    unsent_if c.args.b c.args.generation c.deref_mut.result.now c.send_due.new.self c.args.desk.now c.release-folded.new.desk c.send_due.new.desk c.in-Some-send_due.result (search rules) (search rules)
    (same_more c.args.desk.now c.loop.desk c.release-folded.new.desk c.loop.invariant.same c.release-folded.ensures.same) c.in-Some-send_due.ensures

pub returns-in-Some-send_due-clause-same : goal.returns-in-Some-send_due-clause-same
returns-in-Some-send_due-clause-same g c =
    same_if c.args.b c.args.generation c.deref_mut.result.now c.send_due.new.self c.args.desk.now c.release-folded.new.desk c.send_due.new.desk c.in-Some-send_due.result (search rules) (search rules)
    (same_more c.args.desk.now c.loop.desk c.release-folded.new.desk c.loop.invariant.same c.release-folded.ensures.same) c.in-Some-send_due.ensures
