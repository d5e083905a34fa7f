use Rattle.std.proofs.Common.{◌∙◌, ◌++◌, ◌∷◌, ap, ℕ, append_assoc}
use Rattle.std.specs.Prelude.{decimal}
use Rattle.std.specs.Net.Text.{socket_text}
use Rattle.std.proofs.lemmas.Result.{IfOk-weaker}
use Rattle.server_errors.proofs.lines.link_text.Goals as goal

pub returns : goal.returns
returns c =
    let what = c.args.what.now in
    let peer = socket_text c.args.peer.now in
    let same = ap (λ (n : ℕ). 66 ∷ 83 ∷ 67 ∷ 32 ∷ decimal n ++ (32 ∷ 40 ∷ (peer ++ 41 ∷ 58 ∷ 32 ∷ what))) c.number-number.ensures.value in
    IfOk-weaker c.format.result _ _ (λ text is. is ∙ same ∙ simp append_assoc) c.format.ensures.ok
