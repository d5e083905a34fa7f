use Rattle.std.proofs.Common.{◌++◌, ◌∷◌, ap, ◌∙◌}
use Rattle.journal_text.proofs.TextLemmas.{joined_names}
use Rattle.journal_text.proofs.names.push_areas.Goals as goal

pub returns : goal.returns
returns c =
    joined_names c.args.line.now.items c.first-item.result c.args.names.now c.push_word.new.line.items c.push_more_names.new.line.items c.in-len1-up.len_at_least c.first-item.is
    (c.in_ok-push_word-in-len1-up.ensures ∙ ap (λ octets. c.args.line.now.items ++ 32 ∷ octets) c.as_slice.ensures)
    c.in_ok-push_more_names-in-len1-up.ensures
