use Rattle.std.proofs.Common.{[], ◌++◌, ◌∙◌, ap, arith}
use Rattle.coverage_plan.specs.Plan.{State}
use Rattle.centre_lines.specs.Following.{before_at}
use Rattle.centre_past.proofs.ReadLemmas.{as_itself, added_more}
use Rattle.centre_lines.proofs.IndicatedLemmas.{lines_of_as}
use Rattle.centre_lines.proofs.reading.read_all.Goals as goal

pub returns-in_err-read_there-clause-meter : goal.returns-in_err-read_there-clause-meter
returns-in_err-read_there-clause-meter c =
    λ of.
    let before = (c.loop-spot.invariant.0 c.args.tables.now (as_itself c.args.tables.now)).0 in
    let passed = c.loop-spot.invariant.1.0 of in
    let more = c.read_there.ensures.meter (λ leaves. lines_of_as c.args.warnings.now c.args.tables.now c.loop-spot.tables before (of leaves)) in
    grind (arith, passed, more, c.loop-spot-test.true)

pub loop-spot-preserved : goal.loop-spot-preserved
loop-spot-preserved c = (
  λ t same.
      let before = c.loop-spot.invariant.0 t same in (
        c.read_there.ensures.kept t before.0,
        added_more (before_at c.args.edit.now c.args.plan.now t c.args.warnings.now) c.args.spots.now c.loop-spot.spot-index c.spot-item.result c.spot-item.result [] c.loop-spot.out.items c.read_there.new.out.items c.loop-spot-test.true c.spot-item.is before.1
            (c.in_ok-read_there.ensures.earlier t before.0 ∙ ap (λ (p : State). c.loop-spot.out.items ++ before_at c.args.edit.now p t c.args.warnings.now c.spot-item.result) c.loop-spot.invariant.1.1),
      ),
  (
    λ of.
        let before = (c.loop-spot.invariant.0 c.args.tables.now (as_itself c.args.tables.now)).0 in
        let passed = c.loop-spot.invariant.1.0 of in
        let more = c.read_there.ensures.meter (λ leaves. lines_of_as c.args.warnings.now c.args.tables.now c.loop-spot.tables before (of leaves)) in
        grind (arith, passed, more),
    c.read_there.ensures.same ∙ c.loop-spot.invariant.1.1,
  ),
)
