use Rattle.message_identifiers.proofs.LawLemmas.{name_reads_back}
use Rattle.message_identifiers.proofs.laws.each_name_is_read_as_its_number.Goals as goal

pub returns : goal.returns
returns c = name_reads_back
