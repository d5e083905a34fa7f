use Rattle.std.proofs.Common.{◌++◌, ◌-◌, ap, drop, length, take, ◌∙◌, encode_utf8}
use Rattle.std.specs.String.{string_bytes}
use Rattle.message_text.specs.Reading.{ucs2_letters}
use Rattle.message_text.proofs.ReadingLemmas.{text_with, ucs2_step}
use Rattle.message_text.proofs.ucs2.append_page.Goals as goal

pub loop-rest-preserved : goal.loop-rest-preserved
loop-rest-preserved c =
    let l = c.loop-rest in
    let value = c.in-Some.ensures.value in
    let bytes = c.in_ok-push.ensures.bytes ∙ ap (λ letter. string_bytes l.text ++ encode_utf8 letter) value.1 in
    ap (λ o. text_with o (ucs2_letters (take (length l.rest.now - 2) (drop 2 l.rest.now)))) bytes
    ∙ ucs2_step l.rest.now (string_bytes l.text) c.from.result c.from-in-len2-up.result c.in-len2-up.len_at_least c.from.ensures c.from-in-len2-up.ensures value.0
    ∙ l.invariant
