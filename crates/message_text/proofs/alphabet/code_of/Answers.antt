use Rattle.message_text.specs.Alphabet.{every_code}
use Rattle.message_text.proofs.alphabet.code_of.Goals as goal

pub returns : goal.returns
unfolding every_code
returns c = c.first_code.ensures
