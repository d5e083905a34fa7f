use Rattle.std.proofs.Common.{◌≡◌, ◌+◌, List, ℕ, drop, map, take, sym, ◌∙◌, ap, subst, arith}
use Rattle.coverage_plan.specs.Plan.{State}
use Rattle.kept_tables.specs.Consistent.{Consistent}
use Rattle.kept_tables.specs.View.{key_at}
use Rattle.mirror.specs.declared.line_key.LineKey.{LineKey}
use Rattle.kept_tables.specs.declared.spot.Spot.{Spot}
use Rattle.warning_book.specs.Book as book
use Rattle.warning_book.specs.Book.{numbers}
use Rattle.centre_lines.specs.Following.{Happens, happens, keys_of}
use Rattle.centre_lines.specs.Walking.{Walks, walked}
use Rattle.centre_lines.proofs.WalkLemmas.{all_walked, flat_more, flat_parted, goes_on, went_on}
use Rattle.centre_lines.proofs.walking.walk_indicated.Goals as goal

pub walk_indicated_spot-requires-clause-all : goal.walk_indicated_spot-requires-clause-all
walk_indicated_spot-requires-clause-all c =
    c.as_slice.ensures.value ∙ c.in_ok-all.ensures ∙ ap (λ (st : book.State). numbers st.warnings) c.book.ensures ∙ ap (λ (p : State). numbers p.book.warnings) (sym c.loop-spot.invariant.same)

pub walk_indicated_spot-requires-clause-walks : goal.walk_indicated_spot-requires-clause-walks
walk_indicated_spot-requires-clause-walks c =
    let h : Happens = happens c.args.h.now in
    let all : List ℕ = c.in_ok-all.all.items in
    let all_are : all ≡ numbers c.args.plan.now.book.warnings = c.in_ok-all.ensures ∙ ap (λ (st : book.State). numbers st.warnings) c.book.ensures in
    let at : Spot → List LineKey = λ p. map (key_at p) all in
    let i = c.loop-spot.spot-index in
    let x = subst (λ ns. Walks c.args.plan.now h c.args.tables.now (keys_of c.args.spots.now ns)) (sym all_are) c.requires.walks in
    subst (λ ns. Walks c.loop-spot.plan h c.loop-spot.tables (map (key_at c.spot-item.result) ns)) (sym c.as_slice.ensures.value)
    (subst (λ (p : State). Walks p h c.loop-spot.tables (at c.spot-item.result)) (sym c.loop-spot.invariant.same)
    (goes_on x c.loop-spot.tables (keys_of (take i c.args.spots.now) all) (at c.spot-item.result) (keys_of (drop (i + 1) c.args.spots.now) all)
    (flat_parted at c.args.spots.now i c.spot-item.result c.loop-spot-test.true c.spot-item.is) c.loop-spot.invariant.downs (c.loop-spot.invariant.walked x)))

pub loop-spot-preserved : goal.loop-spot-preserved
loop-spot-preserved c =
    let h : Happens = happens c.args.h.now in
    let all : List ℕ = c.in_ok-all.all.items in
    let at : Spot → List LineKey = λ p. map (key_at p) all in
    let i = c.loop-spot.spot-index in
    let done : List LineKey = keys_of (take i c.args.spots.now) all in
    record {
      walked = λ x.
          subst (λ ks. Consistent c.walk_indicated_spot.new.tables (walked x ks)) (flat_more at c.args.spots.now i c.spot-item.result c.loop-spot-test.true c.spot-item.is)
          (went_on x c.walk_indicated_spot.new.tables done (at c.spot-item.result)
          (subst (λ (p : State). (y : Walks p h c.loop-spot.tables (at c.spot-item.result)) → Consistent c.walk_indicated_spot.new.tables (walked y (at c.spot-item.result))) c.loop-spot.invariant.same
          (subst (λ ns. (y : Walks c.loop-spot.plan h c.loop-spot.tables (map (key_at c.spot-item.result) ns)) → Consistent c.walk_indicated_spot.new.tables (walked y (map (key_at c.spot-item.result) ns))) c.as_slice.ensures.value c.in_ok-walk_indicated_spot.ensures.walked)
          (goes_on x c.loop-spot.tables done (at c.spot-item.result) (keys_of (drop (i + 1) c.args.spots.now) all) (flat_parted at c.args.spots.now i c.spot-item.result c.loop-spot-test.true c.spot-item.is) c.loop-spot.invariant.downs (c.loop-spot.invariant.walked x))));
      downs = c.walk_indicated_spot.ensures.downs ∙ c.loop-spot.invariant.downs;
      meter = grind (arith, c.walk_indicated_spot.ensures.meter, c.loop-spot.invariant.meter, c.as_slice.ensures.value);
      least = omega (arith, c.walk_indicated_spot.ensures.least, c.loop-spot.invariant.least);
      same = c.walk_indicated_spot.ensures.same ∙ c.loop-spot.invariant.same;
    }

pub returns-clause-walked : goal.returns-clause-walked
returns-clause-walked c =
    let h : Happens = happens c.args.h.now in
    let all : List ℕ = c.in_ok-all.all.items in
    let all_are : all ≡ numbers c.args.plan.now.book.warnings = c.in_ok-all.ensures ∙ ap (λ (st : book.State). numbers st.warnings) c.book.ensures in
    subst (λ ns. (x : Walks c.args.plan.now h c.args.tables.now (keys_of c.args.spots.now ns)) → Consistent c.loop-spot.tables (walked x (keys_of c.args.spots.now ns))) all_are
    (λ x. all_walked x c.loop-spot.tables (λ ps. keys_of ps all) c.args.spots.now c.loop-spot.spot-index (omega (arith, c.loop-spot-test.false)) (c.loop-spot.invariant.walked x))
