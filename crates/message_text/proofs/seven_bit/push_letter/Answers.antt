use Rattle.std.proofs.Common.{[], ◌∷◌, ◌++◌, ap, append_assoc, append-nil, sym, ◌∙◌}
use Rattle.message_text.proofs.AlphabetLemmas.{septets_plain, septets_escaped, septets_missing}
use Rattle.message_text.proofs.seven_bit.push_letter.Goals as goal

pub returns-in_ok-push : goal.returns-in_ok-push
returns-in_ok-push c =
    c.in_ok-push.ensures.items ∙ ap (λ s. c.args.septets.now.items ++ s) (sym (septets_plain c.args.letter c.in-Some.code (sym c.code_of.ensures ∙ c.in-Some.is)))

pub returns-in_ok-push-3 : goal.returns-in_ok-push-3
returns-in_ok-push-3 c =
    let none = sym c.code_of.ensures ∙ c.in_default.is in
    let some = sym c.extended_code.ensures ∙ c.in-Some-extended_code.is in
    c.in_ok-push-3.ensures.items ∙ ap (λ s. s ++ c.in-Some-extended_code.code ∷ []) c.in_ok-push-2.ensures.items
    ∙ append_assoc c.args.septets.now.items (27 ∷ []) (c.in-Some-extended_code.code ∷ [])
    ∙ ap (λ s. c.args.septets.now.items ++ s) (sym (septets_escaped c.args.letter c.in-Some-extended_code.code none some))

pub returns-in_default-extended_code : goal.returns-in_default-extended_code
returns-in_default-extended_code c =
    let none = sym c.code_of.ensures ∙ c.in_default.is in
    let other = sym c.extended_code.ensures ∙ c.in_default-extended_code.is in
    sym (append-nil c.args.septets.now.items) ∙ ap (λ s. c.args.septets.now.items ++ s) (sym (septets_missing c.args.letter none other))
