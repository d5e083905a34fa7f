use Rattle.kept_tables.proofs.kept_tables.KeptTables.is_present_anywhere.Goals as goal

pub returns-clause-most : goal.returns-clause-most
returns-clause-most c = rw (← c.self.view_is) c.is_present_anywhere.ensures.most
