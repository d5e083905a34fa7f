use Rattle.std.proofs.Common.{refl}
use Rattle.message_text.specs.Alphabet.{alphabet}
use Rattle.message_text.proofs.alphabet.letters.Goals as goal

pub returns : goal.returns
unfolding alphabet
returns c = refl
