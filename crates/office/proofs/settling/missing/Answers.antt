use Rattle.std.proofs.Common.{rules, ◌≤◌, arith}
use Rattle.office.proofs.ShuffleLemmas.{there_more}
use Rattle.office.proofs.settling.missing.Goals as goal

pub loop-number-preserved : goal.loop-number-preserved
loop-number-preserved g c = (search rules, there_more c.args.desks.now c.loop-number.number c.loop-number.invariant.1 (search rules))

pub returns-else-not-has_number-clause-none : goal.returns-else-not-has_number-clause-none
returns-else-not-has_number-clause-none g c = λ none n first last.
    let end : c.args.opened ≤ c.loop-number.number = search rules in
    there_more c.args.desks.now c.loop-number.number c.loop-number.invariant.1 (search rules) n first (omega (arith, last, end))
