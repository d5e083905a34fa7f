use Rattle.std.proofs.Common.{◌≡◌, ◌++◌, drop}
use Rattle.std.specs.List.{flat_map}
use Rattle.status_figures.specs.Metrics.{centre_metric_text}
use Rattle.status_figures.proofs.centre_metrics.push_metrics.Given as goal

-- what was appended so far, and what is ahead, are all of it
abbrev pub invariant-loop-metric : goal.invariant-loop-metric
invariant-loop-metric l = l.out.items ++ flat_map (centre_metric_text l.picture) (drop l.metric-index l.metrics) ≡ l.initial.out.items ++ flat_map (centre_metric_text l.picture) l.metrics
