use Rattle.std.proofs.Common.{sym, ◌∙◌}
use Rattle.link_rules.proofs.PartLemmas.{parts_cut, parts_one}
use Rattle.link_rules.specs.Blocks.{is_slash}
use Rattle.link_rules.proofs.words.cut_slash.Goals as goal

pub returns-in-Some : goal.returns-in-Some
returns-in-Some c = (parts_cut is_slash c.args.text.now c.in-Some.place (sym c.slash_place.ensures ∙ c.in-Some.is)).0

pub returns-in-None : goal.returns-in-None
returns-in-None c = parts_one is_slash c.args.text.now (sym c.slash_place.ensures ∙ c.in-None.is)
