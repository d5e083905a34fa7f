use Rattle.std.proofs.Common.{◌∙◌, filter, map, sym, subst, arith}
use Rattle.std.proofs.lemmas.Result.{on_ok_weaker}
use Rattle.common.specs.OrderLaws.{length_filter}
use Rattle.coverage_plan.specs.Plan.{State}
use Rattle.kept_tables.specs.Consistent.{Consistent}
use Rattle.kept_tables.specs.View.{key_at}
use Rattle.centre_past.proofs.ReadLemmas.{as_itself}
use Rattle.centre_lines.specs.Following.{Happens, happens, is_near}
use Rattle.centre_lines.specs.Walking.{Walks, walked}
use Rattle.centre_lines.proofs.WalkLemmas.{fewer, near_among, near_once, near_walked}
use Rattle.centre_lines.proofs.walking.walk_near.Goals as goal

pub walk_spot-requires : goal.walk_spot-requires
walk_spot-requires c =
    let h : Happens = happens c.args.h.now in
    let q = is_near c.args.plan.now.areas c.args.plan.now.book c.near.new.tables.lines c.args.spot.now.bsc c.args.spot.now.cell in
    let before = c.near.ensures.kept c.args.tables.now (as_itself c.args.tables.now) in
    record {
      walks = subst (λ (p : State). Walks p h c.near.new.tables (map (key_at c.args.spot.now) c.as_slice.result.now)) (sym c.near.ensures.same)
          (subst (λ ns. Walks c.args.plan.now h c.near.new.tables (map (key_at c.args.spot.now) ns)) (sym (c.as_slice.ensures.value ∙ c.in_ok-near.ensures.warnings))
          (fewer c.requires.walks c.near.new.tables (map (key_at c.args.spot.now) (filter q c.args.warnings.now)) (near_among q c.args.spot.now c.args.warnings.now) (near_once q c.args.spot.now c.args.warnings.now c.requires.walks.once) before.same before.downs));
    }

pub returns-clause-walked : goal.returns-clause-walked
returns-clause-walked c =
    let h : Happens = happens c.args.h.now in
    let q = is_near c.args.plan.now.areas c.args.plan.now.book c.near.new.tables.lines c.args.spot.now.bsc c.args.spot.now.cell in
    let before = c.near.ensures.kept c.args.tables.now (as_itself c.args.tables.now) in
    on_ok_weaker c.walk_spot.result
    (λ done x.
    near_walked c.args.spot.now c.args.warnings.now x c.near.new.tables c.walk_spot.new.tables before c.requires.blank
    (subst (λ ns. (y : Walks c.args.plan.now h c.near.new.tables (map (key_at c.args.spot.now) ns)) → Consistent c.walk_spot.new.tables (walked y (map (key_at c.args.spot.now) ns))) (c.as_slice.ensures.value ∙ c.in_ok-near.ensures.warnings)
    (subst (λ (p : State). (y : Walks p h c.near.new.tables (map (key_at c.args.spot.now) c.as_slice.result.now)) → Consistent c.walk_spot.new.tables (walked y (map (key_at c.args.spot.now) c.as_slice.result.now))) c.near.ensures.same done)
    (fewer x c.near.new.tables (map (key_at c.args.spot.now) (filter q c.args.warnings.now)) (near_among q c.args.spot.now c.args.warnings.now) (near_once q c.args.spot.now c.args.warnings.now x.once) before.same before.downs)))
    c.walk_spot.ensures.walked

pub returns-clause-meter : goal.returns-clause-meter
returns-clause-meter c =
    λ of.
    let few = length_filter (is_near c.args.plan.now.areas c.args.plan.now.book c.near.new.tables.lines c.args.spot.now.bsc c.args.spot.now.cell) c.args.warnings.now in
    let told = c.near.ensures.meter of in
    grind (arith, few, told, c.walk_spot.ensures.meter, c.as_slice.ensures.value, c.in_ok-near.ensures.warnings)

-- no cell comes to be down

pub returns-in_err-near-clause-downs : goal.returns-in_err-near-clause-downs
returns-in_err-near-clause-downs c = (c.near.ensures.kept c.args.tables.now (as_itself c.args.tables.now)).downs

pub returns-clause-downs : goal.returns-clause-downs
returns-clause-downs c = c.walk_spot.ensures.downs ∙ (c.near.ensures.kept c.args.tables.now (as_itself c.args.tables.now)).downs

pub returns-in_err-near-clause-least : goal.returns-in_err-near-clause-least
returns-in_err-near-clause-least c = (c.near.ensures.kept c.args.tables.now (as_itself c.args.tables.now)).meter

pub returns-clause-least : goal.returns-clause-least
returns-clause-least c =
    let before = (c.near.ensures.kept c.args.tables.now (as_itself c.args.tables.now)).meter in
    omega (arith, before, c.walk_spot.ensures.least)
