use Rattle.std.proofs.Common.{◌≡◌, ◌∙◌, ap, chars}
use Rattle.std.specs.List.{flat_map}
use Rattle.std.specs.Str.{encode_utf8_all}
use Rattle.message_text.proofs.CuttingLemmas.{if_ok_both}
use Rattle.message_text.proofs.PlainLemmas.{letters_plain, octets_plain}
use Rattle.message_text.specs.Plain.{plain_letters, plain_text}
use Rattle.message_text.proofs.plain.plain_text.Goals as goal

pub returns-in_ok-letters-in-Ok : goal.returns-in_ok-letters-in-Ok
returns-in_ok-letters-in-Ok c =
    let text = c.in-Ok.ensures.cases in
    let letters = c.as_slice.ensures.value ∙ c.in_ok-letters-in-Ok.ensures ∙ ap chars text.0 in
    if_ok_both _ (λ plain. plain ≡ plain_text c.args.text.now) c.plain_of.result
    (λ plain is. is ∙ ap (λ l. encode_utf8_all (flat_map plain_letters l)) letters ∙ letters_plain c.args.text.now text.1) c.plain_of.ensures

pub returns-in_ok-from_slice-in-Err : goal.returns-in_ok-from_slice-in-Err
returns-in_ok-from_slice-in-Err c =
    c.from_vec.ensures ∙ c.in_ok-from_slice-in-Err.ensures.items ∙ octets_plain c.args.text.now c.in-Err.ensures.cases.0
