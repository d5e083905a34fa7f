use Rattle.centre_core.proofs.MeterLemmas.{lines_stay}
use Rattle.centre_core.proofs.base.Base.fold.Goals as goal

pub returns-clause-lines : goal.returns-clause-lines
returns-clause-lines c =
    rw (c.saturating_sub-self-inside.ensures, c.meter.ensures, c.lines_of-lines.ensures) (lines_stay c.args.self.now.begun c.args.kept.now.tables.lines.meter c.copied.new.self.tables.lines.meter c.in_ok-copy.ensures.reads.tables.meter)
