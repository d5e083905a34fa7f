use Rattle.link_rules.proofs.BlockLemmas.{three_parts}
use Rattle.link_rules.proofs.reading.read_block.Goals as goal

pub returns-in-Some-cut_slash : goal.returns-in-Some-cut_slash
returns-in-Some-cut_slash c = three_parts c.args.word.now c.in-Some.one.now c.in-Some.behind.now c.in-Some-cut_slash.field-0.0.now c.in-Some-cut_slash.field-0.1.now c.in-Some.ensures c.in-Some-cut_slash.ensures
