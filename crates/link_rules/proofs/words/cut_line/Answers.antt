use Rattle.std.proofs.Common.{sym, ◌∙◌}
use Rattle.link_rules.proofs.PartLemmas.{parts_cut, parts_one}
use Rattle.link_rules.specs.Words.{is_end}
use Rattle.link_rules.proofs.words.cut_line.Goals as goal

pub returns-in-Some : goal.returns-in-Some
returns-in-Some c = parts_cut is_end c.args.text.now c.in-Some.place (sym c.end_place.ensures ∙ c.in-Some.is)

pub returns-in-None : goal.returns-in-None
returns-in-None c = parts_one is_end c.args.text.now (sym c.end_place.ensures ∙ c.in-None.is)
