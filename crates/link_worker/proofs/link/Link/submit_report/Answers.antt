use Rattle.std.proofs.Common.{inl}
use Rattle.link_worker.proofs.OrderLemmas.{refused_open}
use Rattle.link_worker.proofs.link.Link.submit_report.Goals as goal

pub returns-in-Err-clause-ended : goal.returns-in-Err-clause-ended
returns-in-Err-clause-ended g c = inl c.in-Err.ensures.refused

pub returns-in-Err-clause-cut : goal.returns-in-Err-clause-cut
returns-in-Err-clause-cut g c = refused_open _ c.in-Err.end c.in-Err.ensures.refused.is_refused
