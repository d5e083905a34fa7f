use Rattle.std.proofs.Common.{refl}
use Rattle.message_text.specs.Alphabet.{extension}
use Rattle.message_text.proofs.alphabet.rows.Goals as goal

pub returns : goal.returns
unfolding extension
returns c = refl
