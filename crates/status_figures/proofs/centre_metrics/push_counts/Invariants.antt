use Rattle.std.proofs.Common.{◌≡◌, ◌++◌, drop}
use Rattle.std.specs.List.{flat_map}
use Rattle.status_figures.specs.Metrics.{plan_metric_text}
use Rattle.status_figures.proofs.centre_metrics.push_counts.Given as goal

-- what was appended so far, and what is ahead, are all of it
abbrev pub invariant-loop-metric : goal.invariant-loop-metric
invariant-loop-metric l = l.out.items ++ flat_map (plan_metric_text l.counts) (drop l.metric-index l.metrics) ≡ l.initial.out.items ++ flat_map (plan_metric_text l.counts) l.metrics
