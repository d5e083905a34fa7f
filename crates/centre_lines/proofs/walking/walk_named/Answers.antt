use Rattle.std.proofs.Common.{◌+◌, List, drop, map, take, sym, ◌∙◌, subst, arith}
use Rattle.coverage_plan.specs.Plan.{State}
use Rattle.kept_tables.specs.Consistent.{Consistent}
use Rattle.kept_tables.specs.View.{key_at}
use Rattle.mirror.specs.declared.line_key.LineKey.{LineKey}
use Rattle.kept_tables.specs.declared.spot.Spot.{Spot}
use Rattle.centre_lines.specs.Following.{Happens, happens, keys_of}
use Rattle.centre_lines.specs.Walking.{Walks, walked}
use Rattle.centre_lines.proofs.WalkLemmas.{all_walked, flat_more, flat_parted, goes_on, went_on}
use Rattle.centre_lines.proofs.walking.walk_named.Goals as goal

pub walk_spot-requires : goal.walk_spot-requires
walk_spot-requires c =
    let h : Happens = happens c.args.h.now in
    let at : Spot → List LineKey = λ p. map (key_at p) c.args.warnings.now in
    let i = c.loop-spot.spot-index in
    record {
      walks = subst (λ (p : State). Walks p h c.loop-spot.tables (at c.spot-item.result)) (sym c.loop-spot.invariant.same)
          (goes_on c.requires.walks c.loop-spot.tables (keys_of (take i c.args.spots.now) c.args.warnings.now) (at c.spot-item.result) (keys_of (drop (i + 1) c.args.spots.now) c.args.warnings.now)
          (flat_parted at c.args.spots.now i c.spot-item.result c.loop-spot-test.true c.spot-item.is) c.loop-spot.invariant.downs (c.loop-spot.invariant.walked c.requires.walks));
    }

pub loop-spot-preserved : goal.loop-spot-preserved
loop-spot-preserved c =
    let h : Happens = happens c.args.h.now in
    let at : Spot → List LineKey = λ p. map (key_at p) c.args.warnings.now in
    let i = c.loop-spot.spot-index in
    let done : List LineKey = keys_of (take i c.args.spots.now) c.args.warnings.now in
    record {
      walked = λ x.
          subst (λ ks. Consistent c.walk_spot.new.tables (walked x ks)) (flat_more at c.args.spots.now i c.spot-item.result c.loop-spot-test.true c.spot-item.is)
          (went_on x c.walk_spot.new.tables done (at c.spot-item.result)
          (subst (λ (p : State). (y : Walks p h c.loop-spot.tables (at c.spot-item.result)) → Consistent c.walk_spot.new.tables (walked y (at c.spot-item.result))) c.loop-spot.invariant.same c.in_ok-walk_spot.ensures.walked
          (goes_on x c.loop-spot.tables done (at c.spot-item.result) (keys_of (drop (i + 1) c.args.spots.now) c.args.warnings.now) (flat_parted at c.args.spots.now i c.spot-item.result c.loop-spot-test.true c.spot-item.is) c.loop-spot.invariant.downs (c.loop-spot.invariant.walked x))));
      downs = c.walk_spot.ensures.downs ∙ c.loop-spot.invariant.downs;
      meter = grind (arith, c.walk_spot.ensures.meter, c.loop-spot.invariant.meter);
      least = omega (arith, c.walk_spot.ensures.least, c.loop-spot.invariant.least);
      same = c.walk_spot.ensures.same ∙ c.loop-spot.invariant.same;
    }

pub returns-clause-walked : goal.returns-clause-walked
returns-clause-walked c =
    λ x. all_walked x c.loop-spot.tables (λ ps. keys_of ps c.args.warnings.now) c.args.spots.now c.loop-spot.spot-index (omega (arith, c.loop-spot-test.false)) (c.loop-spot.invariant.walked x)
