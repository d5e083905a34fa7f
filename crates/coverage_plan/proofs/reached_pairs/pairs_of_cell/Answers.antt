use Rattle.std.proofs.Common.{◌≡◌, [], ◌∷◌}
use Rattle.common.specs.Cell.{cell_eq}
use Rattle.warning_book.specs.Book.{is_there, numbers}
use Rattle.coverage_plan.proofs.PairLemmas.{are_pairs}
use Rattle.coverage_plan.proofs.ReachLemmas.{one_cell, numbers_are}
use Rattle.coverage_plan.specs.Reach.{pairs_of}
use Rattle.coverage_plan.proofs.reached_pairs.pairs_of_cell.Goals as goal

pub returns : goal.returns
returns c =
    let b = c.args.book.now in
    let all : c.as_slice.result.now ≡ numbers b.warnings = cc (c.as_slice.ensures.value, c.in_ok-numbers.ensures) in
    let pairs : c.in_ok-pairs.pairs ≡ pairs_of (c.args.c ∷ []) (numbers b.warnings) = cc (c.in_ok-pairs.ensures, all) in
    rw pairs (are_pairs (cell_eq c.args.c) (is_there b) (c.args.c ∷ []) (numbers b.warnings) (one_cell c.args.c) (numbers_are b c.tell_soundness.ensures.ordered))
