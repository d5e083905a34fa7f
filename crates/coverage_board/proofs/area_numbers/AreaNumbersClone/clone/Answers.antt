use Rattle.coverage_board.proofs.area_numbers.AreaNumbersClone.clone.Goals as goal

pub invariant_of-result : goal.invariant_of-result
invariant_of-result c = rw c.in_ok-copied_map.ensures c.self.invariant
