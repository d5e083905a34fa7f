use Rattle.std.proofs.Common.{sym, ◌∙◌}
use Rattle.link_worker.proofs.ReportLemmas.{Ends-refused_report}
use Rattle.link_worker.proofs.link.Link.enter_report.Goals as goal

pub returns-in-Some-clause-refused : goal.returns-in-Some-clause-refused
returns-in-Some-clause-refused g c =
    Ends-refused_report c.args.desk.now _ _ _ c.in-Some.end c.in-Err.ensures.refused c.in-Err.ensures.unchanged (sym c.report_end.ensures.end ∙ c.in-Some.is)
    c.in-Some.ensures.refused
