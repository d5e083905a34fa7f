use Rattle.std.proofs.Common.{◌++◌, ◌∙◌, ap, arith}
use Rattle.common.specs.OrderLaws.{length_filter}
use Rattle.coverage_plan.specs.Plan.{State}
use Rattle.centre_lines.specs.Following.{before_at, is_near}
use Rattle.centre_lines.proofs.NearLemmas.{near_before}
use Rattle.centre_lines.proofs.reading.read_near.Goals as goal

pub returns-clause-earlier : goal.returns-clause-earlier
returns-clause-earlier c =
    λ t same.
    let before = c.near.ensures.kept t same in
    c.in_ok-read_at.ensures.earlier t before
    ∙ ap (λ (p : State). c.args.out.now.items ++ before_at c.args.edit.now p t c.as_slice.result.now c.args.spot.now) c.near.ensures.same
    ∙ ap (λ xs. c.args.out.now.items ++ xs)
    (ap (λ ns. before_at c.args.edit.now c.args.plan.now t ns c.args.spot.now) (c.as_slice.ensures.value ∙ c.in_ok-near.ensures.warnings)
    ∙ near_before c.args.edit.now c.args.plan.now t c.near.new.tables c.args.spot.now c.args.warnings.now before c.requires.cover)

pub returns-clause-meter : goal.returns-clause-meter
returns-clause-meter c =
    λ of.
    let few = length_filter (is_near c.args.plan.now.areas c.args.plan.now.book c.near.new.tables.lines c.args.spot.now.bsc c.args.spot.now.cell) c.args.warnings.now in
    let told = c.near.ensures.meter of in
    grind (arith, few, told, c.read_at.ensures.meter, c.as_slice.ensures.value, c.in_ok-near.ensures.warnings)

pub returns-in_err-read_at-clause-meter : goal.returns-in_err-read_at-clause-meter
returns-in_err-read_at-clause-meter c =
    λ of.
    let few = length_filter (is_near c.args.plan.now.areas c.args.plan.now.book c.near.new.tables.lines c.args.spot.now.bsc c.args.spot.now.cell) c.args.warnings.now in
    let told = c.near.ensures.meter of in
    grind (arith, few, told, c.read_at.ensures.meter, c.as_slice.ensures.value, c.in_ok-near.ensures.warnings)
