use Rattle.message_identifiers.proofs.LawLemmas.{none_closer}
use Rattle.message_identifiers.proofs.laws.none_is_closer.Goals as goal

pub returns : goal.returns
returns c = none_closer
