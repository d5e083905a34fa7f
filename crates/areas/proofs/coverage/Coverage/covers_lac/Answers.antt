use Rattle.std.proofs.Common.{◌∙◌, sym, ap}
use Rattle.areas.proofs.ShareLemmas.{none_selected_of, all_selected_of}
use Rattle.areas.specs.Shares.{tells}
use Rattle.areas.proofs.coverage.Coverage.covers_lac.Goals as goal

pub returns-in-Nothing : goal.returns-in-Nothing
returns-in-Nothing c =
    none_selected_of c.args.lac c.args.self.now (ap (tells c.args.self.now c.args.lac) (sym c.in-Nothing.is) ∙ c.share.ensures)

pub returns-in-All : goal.returns-in-All
returns-in-All c =
    all_selected_of c.args.lac c.args.self.now (ap (tells c.args.self.now c.args.lac) (sym c.in-All.is) ∙ c.share.ensures)
