use Rattle.std.proofs.Common.{◌≡◌, ◌+◌, ◌∷◌, ◌++◌, [], ◌∙◌, map, take, drop, ap, sym, subst, arith}
use Rattle.std.proofs.lemmas.List.{take_all}
use Rattle.coverage_plan.specs.Plan.{State}
use Rattle.kept_tables.specs.Changes.{IsNext, mixed}
use Rattle.kept_tables.specs.Consistent.{Consistent}
use Rattle.centre_lines.specs.Following.{Happens, change_of, happens}
use Rattle.centre_past.specs.State.{AreCovering}
use Rattle.warning_book.specs.Book.{warning_of}
use Rattle.centre_lines.proofs.CoveredLemmas.{covered_at}
use Rattle.centre_lines.proofs.MakingLemmas.{change_as, one_more, parted}
use Rattle.centre_lines.proofs.following.change_lines.Goals as goal

pub change_line-requires-clause-covered : goal.change_line-requires-clause-covered
change_line-requires-clause-covered c =
    λ leaves. subst (λ (p : State). AreCovering p.areas c.line-item.result.key.cell c.line-item.result.before.areas (warning_of p.book c.line-item.result.key.warning)) (sym c.loop-line.invariant.plan) (covered_at c.args.plan.now.areas c.args.plan.now.book c.args.earlier.now c.loop-line.line-index c.line-item.result (c.requires.covered leaves) c.loop-line-test.true c.line-item.is)

pub change_line-requires-clause-next : goal.change_line-requires-clause-next
change_line-requires-clause-next c =
    let h : Happens = happens c.args.h.now in
    let same : change_of h c.args.plan.now c.args.tables.now c.line-item.result ≡ change_of h c.args.plan.now c.loop-line.tables c.line-item.result = change_as h c.args.plan.now c.args.tables.now c.loop-line.tables c.line-item.result c.loop-line.invariant.downs in
    let next : IsNext c.loop-line.tables (change_of h c.args.plan.now c.loop-line.tables c.line-item.result) = record {
      start = c.args.tables.now;
      changes = map (change_of h c.args.plan.now c.args.tables.now) c.args.earlier.now;
      begins = c.requires.begins;
      done = map (change_of h c.args.plan.now c.args.tables.now) (take c.loop-line.line-index c.args.earlier.now);
      later = map (change_of h c.args.plan.now c.args.tables.now) (drop (c.loop-line.line-index + 1) c.args.earlier.now);
      split = parted (change_of h c.args.plan.now c.args.tables.now) c.args.earlier.now c.loop-line.line-index c.line-item.result c.loop-line-test.true c.line-item.is ∙ ap (λ x. map (change_of h c.args.plan.now c.args.tables.now) (take c.loop-line.line-index c.args.earlier.now) ++ x ∷ map (change_of h c.args.plan.now c.args.tables.now) (drop (c.loop-line.line-index + 1) c.args.earlier.now)) same;
      made = c.loop-line.invariant.settled c.requires.begins;
    } in
    subst (λ (p : State). IsNext c.loop-line.tables (change_of h p c.loop-line.tables c.line-item.result)) (sym c.loop-line.invariant.plan) next

pub loop-line-preserved : goal.loop-line-preserved
loop-line-preserved c =
    let h : Happens = happens c.args.h.now in
    let same : change_of h c.args.plan.now c.args.tables.now c.line-item.result ≡ change_of h c.args.plan.now c.loop-line.tables c.line-item.result = change_as h c.args.plan.now c.args.tables.now c.loop-line.tables c.line-item.result c.loop-line.invariant.downs in
    let made : (n : IsNext c.loop-line.tables (change_of h c.args.plan.now c.loop-line.tables c.line-item.result)) → Consistent c.change_line.new.tables (mixed n.begins.from n.begins.to (n.done ++ change_of h c.args.plan.now c.loop-line.tables c.line-item.result ∷ [])) =
    subst (λ (p : State). (n : IsNext c.loop-line.tables (change_of h p c.loop-line.tables c.line-item.result)) → Consistent c.change_line.new.tables (mixed n.begins.from n.begins.to (n.done ++ change_of h p c.loop-line.tables c.line-item.result ∷ []))) c.loop-line.invariant.plan c.in_ok-change_line.ensures.made in
    record {
      settled = λ b.
          subst (λ xs. Consistent c.change_line.new.tables (mixed b.from b.to xs))
          (ap (λ x. map (change_of h c.args.plan.now c.args.tables.now) (take c.loop-line.line-index c.args.earlier.now) ++ x ∷ []) (sym same) ∙ one_more (change_of h c.args.plan.now c.args.tables.now) c.args.earlier.now c.loop-line.line-index c.line-item.result c.loop-line-test.true c.line-item.is)
          (made (record {
            start = c.args.tables.now;
            changes = map (change_of h c.args.plan.now c.args.tables.now) c.args.earlier.now;
            begins = b;
            done = map (change_of h c.args.plan.now c.args.tables.now) (take c.loop-line.line-index c.args.earlier.now);
            later = map (change_of h c.args.plan.now c.args.tables.now) (drop (c.loop-line.line-index + 1) c.args.earlier.now);
            split = parted (change_of h c.args.plan.now c.args.tables.now) c.args.earlier.now c.loop-line.line-index c.line-item.result c.loop-line-test.true c.line-item.is ∙ ap (λ x. map (change_of h c.args.plan.now c.args.tables.now) (take c.loop-line.line-index c.args.earlier.now) ++ x ∷ map (change_of h c.args.plan.now c.args.tables.now) (drop (c.loop-line.line-index + 1) c.args.earlier.now)) same;
            made = c.loop-line.invariant.settled b;
          }));
      downs = c.change_line.ensures.downs ∙ c.loop-line.invariant.downs;
      meter = omega (arith, c.change_line.ensures.meter, c.loop-line.invariant.meter);
      least = omega (arith, c.change_line.ensures.least, c.loop-line.invariant.least);
      plan = c.change_line.ensures.same ∙ c.loop-line.invariant.plan;
    }

pub returns-clause-made : goal.returns-clause-made
returns-clause-made c =
    let h : Happens = happens c.args.h.now in
    λ b. subst (λ xs. Consistent c.loop-line.tables (mixed b.from b.to (map (change_of h c.args.plan.now c.args.tables.now) xs))) (take_all c.loop-line.line-index c.args.earlier.now (omega (arith, c.loop-line-test.false))) (c.loop-line.invariant.settled b)
