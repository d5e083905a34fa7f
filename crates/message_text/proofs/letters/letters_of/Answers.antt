use Rattle.std.proofs.Common.{ap, sym, ◌∙◌, chars}
use Rattle.message_text.specs.Texts as texts
use Rattle.message_text.proofs.TextLemmas.{fault_is}
use Rattle.message_text.proofs.letters.letters_of.Goals as goal

pub returns-in-Some-clause-fault : goal.returns-in-Some-clause-fault
returns-in-Some-clause-fault c =
    let t = c.in-Ok.ensures.cases in
    let letters = c.as_slice.ensures.value ∙ c.in_ok-letters.ensures ∙ ap chars t.0 in
    fault_is c.args.text.now c.in-Some.fault t.1 (ap texts.letters_fault (sym letters) ∙ sym c.letters_fault.ensures ∙ c.in-Some.is)
