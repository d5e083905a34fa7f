use Rattle.centre_answers.proofs.ReuseLemmas.{looked_few, reported_by}
use Rattle.centre_answers.proofs.events.reusing.is_key_reported.Goals as goal

pub returns-clause-which : goal.returns-clause-which
returns-clause-which c =
    λ settings past legal tables found there.
    reported_by settings past legal c.args.tables.now c.args.w.now c.args.serial c.number.result c.number.ensures tables found there c.is_present_anywhere.result c.is_present_anywhere.ensures.some c.is_present_anywhere.ensures.none

pub returns-clause-meter : goal.returns-clause-meter
returns-clause-meter c =
    λ settings past r legal knows.
    looked_few settings past c.args.tables.now.lines c.lines.result.now r c.number.result c.args.tables.now.lines.meter c.is_present_anywhere.new.self.lines.meter legal knows c.lines.ensures c.tell_lines.ensures c.is_present_anywhere.ensures.most
