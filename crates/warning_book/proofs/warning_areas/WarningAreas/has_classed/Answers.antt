use Rattle.std.proofs.Common.{◌∙◌, sym}
use Rattle.warning_book.proofs.ClassLemmas.{none_classed}
use Rattle.warning_book.proofs.warning_areas.WarningAreas.has_classed.Goals as goal

pub returns-else-has : goal.returns-else-has
returns-else-has c =
    rw (← c.self.view_is) (c.if-has.false ∙ sym (none_classed c.self.inside.classes.digits c.args.a.now.name.now c.self.inside.names.keys (sym c.has.ensures ∙ c.if-has.false) c.self.invariant))
