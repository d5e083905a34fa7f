use Rattle.console_text.proofs.RunLemmas.{first_is_position}
use Rattle.console_text.proofs.runs.first_place.Goals as goal

pub returns : goal.returns
returns c = first_is_position c.args.octet c.args.text.now c.memchr.result c.memchr.ensures
