use Rattle.std.proofs.Common.{◌≡◌, ◌++◌, drop}
use Rattle.std.specs.List.{flat_map}
use Rattle.status_figures.specs.Labels.{label_octet}
use Rattle.status_figures.proofs.labels.push_label.Given as goal

-- what was appended so far, and what is ahead, are all of it
abbrev pub invariant-loop-octet : goal.invariant-loop-octet
invariant-loop-octet l = l.out.items ++ flat_map (label_octet) (drop l.octet-index l.value) ≡ l.initial.out.items ++ flat_map (label_octet) l.value
