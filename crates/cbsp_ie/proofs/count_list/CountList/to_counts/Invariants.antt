use Rattle.std.proofs.Common.{◌≡◌, take}
use Rattle.cbsp_ie.proofs.count_list.CountList.to_counts.Given as goal

-- the entries before the index are copied
abbrev pub invariant-loop-index : goal.invariant-loop-index
invariant-loop-index l = l.counts ≡ record { form = l.self.form; entries = take l.index l.self.entries }
