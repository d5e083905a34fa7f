use Rattle.std.proofs.Common.{eqb, length, ap, sym, ◌∙◌, arith}
use Rattle.console.proofs.GenerationLemmas.{generation_set}
use Rattle.console.proofs.generations.keep_in.Goals as goal

pub returns-then-eq-clause-ok : goal.returns-then-eq-clause-ok
returns-then-eq-clause-ok c =
    generation_set c.loop-i.kept.items c.loop-i.i c.args.bsc c.args.generation c.index.result.now
    (omega (arith, ap length c.loop-i.invariant.same))
    (ap (λ k. eqb k.bsc c.args.bsc) (sym c.index.ensures) ∙ sym c.if-eq.ensures) ∙ c.loop-i.invariant.rest
