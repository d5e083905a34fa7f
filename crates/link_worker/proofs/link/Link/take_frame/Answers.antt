use Rattle.std.proofs.Common.{sym, ◌∙◌}
use Rattle.link_worker.proofs.ReportLemmas.{Stops-unread, ended_if, fault_open, report_read, report_unread, taken_if}
use Rattle.link_worker.proofs.link.Link.take_frame.Goals as goal

pub returns-in-Ok-clause-taken : goal.returns-in-Ok-clause-taken
returns-in-Ok-clause-taken g c =
    let is = report_read c.args.frame.now c.in-Some.kind c.as_slice.result.now c.in-Ok.message (sym c.of_report.ensures ∙ c.in-Some.is) c.as_slice.ensures c.in-Ok.ensures.kind c.in-Ok.ensures.found in
    taken_if c.submit_report.result _ _ _ c.in-Ok.message _ _ is c.submit_report.ensures.got

pub returns-in-Ok-clause-ended : goal.returns-in-Ok-clause-ended
returns-in-Ok-clause-ended g c =
    let is = report_read c.args.frame.now c.in-Some.kind c.as_slice.result.now c.in-Ok.message (sym c.of_report.ensures ∙ c.in-Some.is) c.as_slice.ensures c.in-Ok.ensures.kind c.in-Ok.ensures.found in
    ended_if c.submit_report.result _ _ _ c.in-Ok.message _ _ is c.submit_report.ensures.got c.submit_report.ensures.ended

pub returns-in-Err-clause-ended : goal.returns-in-Err-clause-ended
returns-in-Err-clause-ended g c =
    rw c.of_fault.ensures
    (Stops-unread _ _ _ _ c.in-Err.fault (report_unread _ _ _ c.args.frame.now c.in-Some.kind c.as_slice.result.now c.in-Err.fault (sym c.of_report.ensures ∙ c.in-Some.is) c.as_slice.ensures c.in-Err.ensures.fault))

pub returns-in-Err-clause-cut : goal.returns-in-Err-clause-cut
returns-in-Err-clause-cut g c = rw c.of_fault.ensures (fault_open _ c.in-Err.fault)
