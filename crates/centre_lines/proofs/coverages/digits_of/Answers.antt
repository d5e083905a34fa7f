use Rattle.std.proofs.Common.{◌+◌, ◌*◌, ◌-◌, ◌∙◌, arith, sym}
use Rattle.areas.specs.Areas.{selects}
use Rattle.common.specs.Sums.{one}
use Rattle.coverage_board.specs.AreaSetLaws.{drop_few}
use Rattle.centre_lines.proofs.CoverageLemmas.{mask_next}
use Rattle.centre_lines.proofs.coverages.digits_of.Goals as goal

pub behind-digits-requires : goal.behind-digits-requires
behind-digits-requires c =
    let low = drop_few (λ s. selects s c.args.c) c.args.coverages.now c.loop-place.place c.requires (omega arith) in
    let is = c.loop-place.invariant.digits in
    omega arith

pub loop-place-preserved : goal.loop-place-preserved
loop-place-preserved c = record {
  within = omega arith;
  digits =
      c.behind-digits.ensures
      ∙ (λ j. one (c.covers.ensures j) + 2 * (c.loop-place.invariant.digits j))
      ∙ sym (mask_next (λ s. selects s c.args.c) c.args.coverages.now (c.loop-place.place - 1) c.loop-place.place c.index-coverages-place.result c.index-coverages-place.is (omega arith) (omega arith));
}
