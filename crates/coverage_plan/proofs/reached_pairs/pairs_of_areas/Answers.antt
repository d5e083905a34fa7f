use Rattle.std.proofs.Common.{◌≡◌, ◌&&◌, nat_eq, [], ◌∷◌}
use Rattle.coverage_plan.proofs.PairLemmas.{are_pairs}
use Rattle.coverage_plan.proofs.ReachLemmas.{one_number}
use Rattle.coverage_plan.specs.Plan.{is_covered}
use Rattle.coverage_plan.specs.Reach.{is_registered, pairs_of}
use Rattle.coverage_plan.proofs.reached_pairs.pairs_of_areas.Goals as goal

pub returns : goal.returns
returns c =
    let r = c.args.register.now in
    let l = c.args.areas.now in
    let n = c.args.number in
    let pairs : c.in_ok-pairs.pairs ≡ pairs_of c.in_ok-cells.cells (n ∷ []) = cc (c.in_ok-pairs.ensures, c.as_slice.ensures) in
    rw pairs (are_pairs (λ d. is_registered r d && is_covered l c.args.names.now d) (nat_eq n) c.in_ok-cells.cells (n ∷ []) c.in_ok-cells.ensures (one_number n))
