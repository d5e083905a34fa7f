use Rattle.kept_tables.proofs.kept_tables.KeptTables.places_of.Goals as goal

pub returns-clause-few : goal.returns-clause-few
returns-clause-few c = rw (← c.self.view_is) c.places_of.ensures.few
