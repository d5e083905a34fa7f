use Rattle.std.proofs.Common.{◌++◌, ◌∷◌, ap, ◌∙◌}
use Rattle.hex.specs.Hex.{encode_lower}
use Rattle.journal_text.proofs.TextLemmas.{joined_pages}
use Rattle.journal_text.proofs.contents.push_pages.Goals as goal

pub returns-clause-text : goal.returns-clause-text
returns-clause-text c =
    joined_pages c.args.line.now.items c.first-item.result c.args.pages.now c.push_octets.new.line.items c.push_more_pages.new.line.items c.in-len1-up.len_at_least c.first-item.is
    (c.in_ok-push_octets-in-len1-up.ensures.text ∙ ap (λ octets. c.args.line.now.items ++ 32 ∷ encode_lower octets) c.as_slice.ensures)
    c.in_ok-push_more_pages-in-len1-up.ensures.text
