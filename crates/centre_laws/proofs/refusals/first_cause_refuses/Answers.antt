use Rattle.centre_laws.proofs.CauseLemmas.{first_cause}
use Rattle.centre_laws.proofs.refusals.first_cause_refuses.Goals as goal

pub returns : goal.returns
returns c = first_cause
