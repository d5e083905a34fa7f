use Rattle.std.proofs.Common.{sym, ◌∙◌}
use Rattle.journal_file.proofs.EndLemmas.{cut_there, cut_nowhere}
use Rattle.journal_file.proofs.line_end.cut_at_end.Goals as goal

pub returns-in-Some : goal.returns-in-Some
returns-in-Some c = cut_there c.args.octets.now c.in-Some.place (sym c.first_end.ensures ∙ c.in-Some.is)

pub returns-in-None : goal.returns-in-None
returns-in-None c = cut_nowhere c.args.octets.now (sym c.first_end.ensures ∙ c.in-None.is)
