use Rattle.cbsp_ie.proofs.ElementLemmas.{only_answer}
use Rattle.cbsp_ie.proofs.reading.read_element.Goals as goal

pub returns-clause-only : goal.returns-clause-only
returns-clause-only c = only_answer c.args.octets.now c.element_at.result c.element_at.ensures.within c.element_at.ensures.found c.element_at.ensures.fault
