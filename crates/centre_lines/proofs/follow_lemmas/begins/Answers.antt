use Rattle.centre_lines.proofs.JoinLemmas as join
use Rattle.centre_lines.proofs.follow_lemmas.begins.Goals as goal

pub returns : goal.returns
returns c = λ p t h spots earlier x u same downs. join.begins x u same downs
