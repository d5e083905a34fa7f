use Rattle.std.proofs.Common.{arith}
use Rattle.link_rules.proofs.BlockLemmas.{too_many}
use Rattle.link_rules.proofs.reading.read_two.Goals as goal

pub returns-then-bits-from : goal.returns-then-bits-from
returns-then-bits-from c =
    too_many c.args.one.now c.args.two.now c.in-Ok-Some.address c.in-Ok-Some.bits c.in-Ok-Some.ensures c.in-Ok-Some.ensures'
    (omega (arith, c.bits_of.ensures, c.from.ensures, c.if-bits-from.true))
