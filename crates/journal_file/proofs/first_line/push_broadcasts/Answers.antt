use Rattle.std.proofs.Common.{◌∙◌, ◌++◌, ap, append_assoc}
use Rattle.journal_file.proofs.FirstLemmas.{said}
use Rattle.journal_file.proofs.first_line.push_broadcasts.Goals as goal

-- the word, and the digits behind it
pub returns : goal.returns
returns c =
    let line = c.args.line.now.items in
    let digits = c.as_bytes.result.now in
    c.push-2.ensures.items ∙ ap (λ s. s ++ digits) c.push.ensures.items ∙ append_assoc line _ digits
    ∙ ap (λ s. line ++ s) (said c.args.broadcasts digits c.if-broadcasts-eq0.false (c.as_bytes.ensures.value ∙ c.format.ensures.text))
