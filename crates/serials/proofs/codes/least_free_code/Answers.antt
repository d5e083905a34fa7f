use Rattle.serials.specs.Serials.{every_code}
use Rattle.serials.proofs.codes.least_free_code.Goals as goal

pub returns-clause-value : goal.returns-clause-value
unfolding every_code
returns-clause-value c = c.first_free.ensures.value
