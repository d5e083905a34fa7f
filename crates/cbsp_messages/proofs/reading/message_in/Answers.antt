use Rattle.std.proofs.Common.{sym, ◌∙◌}
use Rattle.cbsp_messages.proofs.ReadingLemmas.{IsFault-octet, Spells-octet}
use Rattle.cbsp_messages.proofs.reading.message_in.Goals as goal

pub returns-clause-found : goal.returns-clause-found
returns-clause-found c = Spells-octet _ c.args.kind _ _ (sym c.of_code.ensures ∙ c.in-Some.is) c.read_as.ensures.found

pub returns-clause-fault : goal.returns-clause-fault
returns-clause-fault c = IsFault-octet _ c.args.kind _ _ (sym c.of_code.ensures ∙ c.in-Some.is) c.read_as.ensures.fault
