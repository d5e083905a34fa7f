use Rattle.warning_book.proofs.warning_areas.WarningAreas.may_have_one_of.Goals as goal

pub returns : goal.returns
returns c none names h = rw (← c.self.view_is) (c.meets.ensures none c.self.inside.names.keys names c.self.invariant h)
