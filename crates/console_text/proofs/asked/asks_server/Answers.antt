use Rattle.std.proofs.Common.{◌∙◌}
use Rattle.console_text.proofs.CommandLineLemmas.{met_serve}
use Rattle.console_text.proofs.asked.asks_server.Goals as goal

pub returns : goal.returns
returns c = c.is_some.ensures ∙ met_serve c.args.matches.now c.subcommand_matches.result c.subcommand_matches.ensures.found
