use Rattle.std.proofs.Common.{true, false, refl, sym, ◌∙◌}
use Rattle.journal_file.specs.Lines.{HasNoEnd}
use Rattle.journal_file.proofs.EndLemmas.{none_there, cut_nowhere}
use Rattle.journal_file.proofs.line_end.has_no_end.Goals as goal

pub returns-in-Some : goal.returns-in-Some
returns-in-Some c = (λ never. cc, λ none. absurd (none_there c.args.octets.now c.in-Some.field-0 none (sym c.first_end.ensures ∙ c.in-Some.is)))

pub returns-in-None : goal.returns-in-None
returns-in-None c = (λ always. cut_nowhere c.args.octets.now (sym c.first_end.ensures ∙ c.in-None.is), λ none. refl)
