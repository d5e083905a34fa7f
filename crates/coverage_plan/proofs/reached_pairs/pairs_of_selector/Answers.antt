use Rattle.std.proofs.Common.{◌≡◌}
use Rattle.warning_book.specs.Book.{names, naming, warning_is}
use Rattle.coverage_plan.proofs.PairLemmas.{are_pairs}
use Rattle.coverage_plan.proofs.ReachLemmas.{naming_are}
use Rattle.coverage_plan.specs.Reach.{is_only_by, pairs_of}
use Rattle.coverage_plan.proofs.reached_pairs.pairs_of_selector.Goals as goal

pub returns : goal.returns
returns c =
    let r = c.args.register.now in
    let l = c.args.areas.now in
    let b = c.args.book.now in
    let a = c.args.a.now in
    let all : c.as_slice-2.result.now ≡ naming a b.warnings = cc (c.as_slice-2.ensures.value, c.in_ok-numbers.ensures) in
    let pairs : c.in_ok-pairs.pairs ≡ pairs_of c.in_ok-cells.cells (naming a b.warnings) = cc (c.in_ok-pairs.ensures, c.as_slice.ensures, all) in
    rw pairs (are_pairs (is_only_by r l a c.args.s) (λ n. warning_is b n (names a)) c.in_ok-cells.cells (naming a b.warnings) c.in_ok-cells.ensures (naming_are a b c.tell_soundness.ensures.ordered))
