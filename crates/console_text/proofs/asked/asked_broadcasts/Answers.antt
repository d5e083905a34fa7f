use Rattle.std.proofs.Common.{◌∙◌, rules}
use Rattle.console_text.proofs.CommandLineLemmas.{broadcasts_read, met_broadcasts}
use Rattle.console_text.proofs.asked.asked_broadcasts.Goals as goal

pub returns : goal.returns
returns c =
    broadcasts_read _ c.get_one.result c.get_one.ensures.none c.get_one.ensures.value
    ∙ met_broadcasts c.args.matches.now c.in_ok-replay.replay.now (search rules) c.in_ok-replay.ensures.rows
