use Rattle.std.proofs.Common.{sym, ◌∙◌}
use Rattle.console_text.proofs.RunLemmas.{cut_there, cut_nowhere}
use Rattle.console_text.proofs.runs.cut_at.Goals as goal

pub returns-in-Some : goal.returns-in-Some
returns-in-Some c = cut_there c.args.separator c.args.text.now c.in-Some.place (sym c.first_place.ensures ∙ c.in-Some.is)

pub returns-in-None : goal.returns-in-None
returns-in-None c = cut_nowhere c.args.separator c.args.text.now (sym c.first_place.ensures ∙ c.in-None.is)
