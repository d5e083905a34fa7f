use Rattle.std.proofs.Common.{sym, ◌∙◌}
use Rattle.link_worker.proofs.OrderLemmas.{Ends-unsent, Writes-same, refused_open, sent_ended, sent_fits, sent_written}
use Rattle.link_worker.proofs.link.Link.send_one.Goals as goal

pub write_receipt-requires : goal.write_receipt-requires
write_receipt-requires g c = sent_fits c.args.self.now.bsc c.args.self.now.generation c.args.desk.now c.send_due.new.desk c.latest.result.now c.in-Ok.ensures.sent c.latest.ensures

pub returns-in-Ok-clause-sent : goal.returns-in-Ok-clause-sent
returns-in-Ok-clause-sent g c =
    sent_written c.args.self.now.bsc c.args.self.now.generation c.args.desk.now c.send_due.new.desk c.latest.result.now c.in-Ok.ensures.sent c.latest.ensures
    c.write_receipt.result _ _ c.write_receipt.ensures.all

pub returns-in-Ok-clause-ended : goal.returns-in-Ok-clause-ended
returns-in-Ok-clause-ended g c =
    sent_ended c.args.self.now.bsc c.args.self.now.generation c.args.desk.now c.send_due.new.desk c.latest.result.now c.in-Ok.ensures.sent c.latest.ensures
    c.write_receipt.result _ _ c.write_receipt.ensures.part

pub returns-in-Some-clause-ended : goal.returns-in-Some-clause-ended
returns-in-Some-clause-ended g c =
    Ends-unsent _ _ c.args.desk.now _ _ c.in-Err.unsent c.in-Some.end c.in-Err.ensures.same c.in-Err.ensures.unsent (sym c.unsent_end.ensures.end ∙ c.in-Some.is)
    c.in-Some.ensures.refused

pub returns-in-None-clause-sent : goal.returns-in-None-clause-sent
returns-in-None-clause-sent g c = Writes-same _ _ _ _ _ c.in-Err.ensures.same

pub returns-in-Some-clause-cut : goal.returns-in-Some-clause-cut
returns-in-Some-clause-cut g c = refused_open _ c.in-Some.end c.in-Some.ensures.refused
