use Rattle.std.proofs.Common.{◌∙◌, ◌++◌, ◌∷◌, ap, ℕ, append_assoc}
use Rattle.std.specs.Prelude.{decimal}
use Rattle.std.specs.Net.Text.{socket_text}
use Rattle.std.proofs.lemmas.Result.{IfOk-weaker}
use Rattle.journal_office.proofs.comments.link_comment.Goals as goal

pub returns : goal.returns
returns c =
    let peer = socket_text c.args.peer.now in
    let same = ap (λ (n : ℕ). 35 ∷ 32 ∷ 108 ∷ 105 ∷ 110 ∷ 107 ∷ 32 ∷ decimal n ++ (32 ∷ peer)) c.number-number.ensures.value in
    IfOk-weaker c.format.result _ _ (λ text is. is ∙ same ∙ simp append_assoc) c.format.ensures.ok
