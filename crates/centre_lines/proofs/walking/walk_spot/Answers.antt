use Rattle.std.proofs.Common.{◌+◌, ◌∷◌, [], List, drop, map, take, sym, ◌∙◌, subst, arith}
use Rattle.coverage_plan.specs.Plan.{State}
use Rattle.kept_tables.specs.Consistent.{Consistent}
use Rattle.kept_tables.specs.View.{key_at}
use Rattle.mirror.specs.declared.line_key.LineKey.{LineKey}
use Rattle.centre_lines.specs.Following.{Happens, happens}
use Rattle.centre_lines.specs.Walking.{Walks, walked}
use Rattle.centre_lines.proofs.MakingLemmas.{one_more, parted}
use Rattle.centre_lines.proofs.WalkLemmas.{all_walked, goes_on, went_on}
use Rattle.centre_lines.proofs.walking.walk_spot.Goals as goal

pub walk_line-requires : goal.walk_line-requires
walk_line-requires c =
    let h : Happens = happens c.args.h.now in
    let at = key_at c.args.spot.now in
    record {
      walks = subst (λ (p : State). Walks p h c.loop-warning.tables (at c.warning-item.result ∷ [])) (sym c.loop-warning.invariant.same)
          (goes_on c.requires.walks c.loop-warning.tables (map at (take c.loop-warning.warning-index c.args.warnings.now)) (at c.warning-item.result ∷ []) (map at (drop (c.loop-warning.warning-index + 1) c.args.warnings.now))
          (parted at c.args.warnings.now c.loop-warning.warning-index c.warning-item.result c.loop-warning-test.true c.warning-item.is) c.loop-warning.invariant.downs (c.loop-warning.invariant.walked c.requires.walks));
    }

pub loop-warning-preserved : goal.loop-warning-preserved
loop-warning-preserved c =
    let h : Happens = happens c.args.h.now in
    let at = key_at c.args.spot.now in
    let i = c.loop-warning.warning-index in
    let done : List LineKey = map at (take i c.args.warnings.now) in
    record {
      walked = λ x.
          subst (λ ks. Consistent c.walk_line.new.tables (walked x ks)) (one_more at c.args.warnings.now i c.warning-item.result c.loop-warning-test.true c.warning-item.is)
          (went_on x c.walk_line.new.tables done (at c.warning-item.result ∷ [])
          (subst (λ (p : State). (y : Walks p h c.loop-warning.tables (at c.warning-item.result ∷ [])) → Consistent c.walk_line.new.tables (walked y (at c.warning-item.result ∷ []))) c.loop-warning.invariant.same c.in_ok-walk_line.ensures.walked
          (goes_on x c.loop-warning.tables done (at c.warning-item.result ∷ []) (map at (drop (i + 1) c.args.warnings.now)) (parted at c.args.warnings.now i c.warning-item.result c.loop-warning-test.true c.warning-item.is) c.loop-warning.invariant.downs (c.loop-warning.invariant.walked x))));
      downs = c.walk_line.ensures.downs ∙ c.loop-warning.invariant.downs;
      meter = omega (arith, c.walk_line.ensures.meter, c.loop-warning.invariant.meter);
      least = omega (arith, c.walk_line.ensures.least, c.loop-warning.invariant.least);
      same = c.walk_line.ensures.same ∙ c.loop-warning.invariant.same;
    }

pub returns-clause-walked : goal.returns-clause-walked
returns-clause-walked c =
    λ x. all_walked x c.loop-warning.tables (map (key_at c.args.spot.now)) c.args.warnings.now c.loop-warning.warning-index (omega (arith, c.loop-warning-test.false)) (c.loop-warning.invariant.walked x)
