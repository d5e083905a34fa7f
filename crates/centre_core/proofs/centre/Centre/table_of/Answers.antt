use Rattle.std.proofs.Common.{refl}
use Rattle.centre_core.proofs.CentreLemmas.{centre_reads}
use Rattle.centre_core.proofs.MeterLemmas.{lines_least}
use Rattle.centre_past.proofs.ReadLemmas.{as_itself}
use Rattle.centre_lines.proofs.BeforeLemmas.{reads_as}
use Rattle.centre_core.proofs.centre.Centre.table_of.Goals as goal

pub invariant_of-self : goal.invariant_of-self
invariant_of-self c =
    centre_reads c.self.invariant
    (record { plan = refl; links = refl; tables = reads_as c.self.inside.kept.tables c.table.new.tables (c.table.ensures.kept c.self.inside.kept.tables (as_itself c.self.inside.kept.tables)) })

pub invariant_of-self-2 : goal.invariant_of-self-2
invariant_of-self-2 c =
    centre_reads c.self.invariant
    (record { plan = refl; links = refl; tables = reads_as c.self.inside.kept.tables c.table.new.tables (c.table.ensures.kept c.self.inside.kept.tables (as_itself c.self.inside.kept.tables)) })

pub returns-in_err-table-clause-least : goal.returns-in_err-table-clause-least
returns-in_err-table-clause-least c = rw (← c.self.view_is) (lines_least c.self.inside.base.begun _ _ (c.table.ensures.kept c.self.inside.kept.tables (as_itself c.self.inside.kept.tables)).meter)

pub returns-clause-least : goal.returns-clause-least
returns-clause-least c = rw (← c.self.view_is) (lines_least c.self.inside.base.begun _ _ (c.table.ensures.kept c.self.inside.kept.tables (as_itself c.self.inside.kept.tables)).meter)
