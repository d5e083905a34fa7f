use Rattle.journal_file.proofs.EndLemmas.{first_is_position}
use Rattle.journal_file.proofs.line_end.first_end.Goals as goal

pub returns : goal.returns
returns c = first_is_position 10 c.args.octets.now c.memchr.result c.memchr.ensures
