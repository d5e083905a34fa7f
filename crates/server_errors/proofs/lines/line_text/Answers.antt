use Rattle.std.proofs.Common.{◌∙◌, append_assoc}
use Rattle.std.proofs.lemmas.Result.{IfOk-weaker}
use Rattle.server_errors.proofs.lines.line_text.Goals as goal

pub returns-in-Some : goal.returns-in-Some
returns-in-Some c = rw c.in-Some.is (IfOk-weaker c.format.result _ _ (λ text is. is ∙ simp append_assoc) c.format.ensures.ok)

pub returns-in-None : goal.returns-in-None
returns-in-None c = rw c.in-None.is c.format-in-None.ensures.ok
