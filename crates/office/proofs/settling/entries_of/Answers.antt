use Rattle.std.proofs.Common.{rules, inl, inr}
use Rattle.office.proofs.ShuffleLemmas.{count_none}
use Rattle.office.proofs.settling.entries_of.Goals.{then-number-eq0-via-then-number-eq0, then-number-eq0-via-else-number-eq0+then-number-rows}
use Rattle.office.proofs.settling.entries_of.Goals as goal

pub returns-then-number-eq0 : goal.returns-then-number-eq0
returns-then-number-eq0 c = λ journal are. count_none c.args.rows.now journal c.args.desk
    (elim c.then-number-eq0.branch [ then-number-eq0-via-then-number-eq0 w ↦ inl (search rules) | then-number-eq0-via-else-number-eq0+then-number-rows w ↦ inr (search rules) ]) are
