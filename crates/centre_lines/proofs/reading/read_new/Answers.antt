use Rattle.std.proofs.Common.{◌≡◌, [], ◌∷◌, ◌++◌, ◌∙◌, ap, arith}
use Rattle.std.proofs.lemmas.List.{take_all}
use Rattle.std.specs.List.{flat_map}
use Rattle.cell_register.specs.Register.{is_place, place_in}
use Rattle.coverage_plan.specs.Plan.{State}
use Rattle.kept_tables.specs.Facts.{no_facts}
use Rattle.kept_tables.specs.View.{key_at}
use Rattle.kept_tables.specs.declared.line_facts.LineFacts.{LineFacts}
use Rattle.mirror.specs.Table.{down_at}
use Rattle.warning_book.specs.declared.kind.Kind.TheVariants as kind
use Rattle.centre_past.proofs.ReadLemmas.{added_more}
use Rattle.centre_lines.specs.declared.line_before.LineBefore.{LineBefore}
use Rattle.centre_lines.proofs.NewLineLemmas.{new_at, new_line, new_lines}
use Rattle.centre_lines.proofs.reading.read_new.Goals as goal

pub loop-spot-init : goal.loop-spot-init
loop-spot-init c = record { out = c.in_ok-out.ensures.items; plan = λ i. c.args.plan.now }

pub returns-in_err-push-clause-same : goal.returns-in_err-push-clause-same
returns-in_err-push-clause-same c = c.is_here-here.ensures.same ∙ c.loop-spot.invariant.plan

pub loop-spot-preserved : goal.loop-spot-preserved
loop-spot-preserved c =
    let there : c.before_of.result ≡ new_line c.args.plan.now.register c.args.tables.now c.args.n c.spot-item.result =
    c.before_of.ensures
    ∙ ap (λ (f : LineFacts). record { key = key_at c.spot-item.result c.args.n; before = f }) c.none.ensures
    ∙ (λ i. record { key = key_at c.spot-item.result c.args.n; before = no_facts (c.is_down-down.ensures i) (c.is_here-here.ensures.here i) })
    ∙ ap (λ (p : State). record { key = key_at c.spot-item.result c.args.n; before = no_facts (down_at c.args.tables.now.lines kind.Cbs c.spot-item.result.bsc c.spot-item.result.cell) (is_place (place_in p.register c.spot-item.result.cell) c.spot-item.result.bsc) }) c.loop-spot.invariant.plan in
    record {
      out = added_more (new_at c.args.plan.now.register c.args.tables.now c.args.n) c.args.spots.now c.loop-spot.spot-index c.spot-item.result c.spot-item.result [] c.loop-spot.out.items c.push.new.self.items c.loop-spot-test.true c.spot-item.is c.loop-spot.invariant.out
          (c.in_ok-push.ensures.items ∙ ap (λ (x : LineBefore). c.loop-spot.out.items ++ x ∷ []) there);
      plan = c.is_here-here.ensures.same ∙ c.loop-spot.invariant.plan;
    }

pub returns-clause-earlier : goal.returns-clause-earlier
returns-clause-earlier c = λ e issue t same.
    c.loop-spot.invariant.out
    ∙ ap (flat_map (new_at c.args.plan.now.register c.args.tables.now c.args.n)) (take_all c.loop-spot.spot-index c.args.spots.now (omega (arith, c.loop-spot-test.false)))
    ∙ new_lines e issue c.args.plan.now t c.args.tables.now same c.args.n c.requires.new c.args.spots.now

pub returns-clause-same : goal.returns-clause-same
returns-clause-same c = c.loop-spot.invariant.plan
