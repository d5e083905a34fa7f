use Rattle.std.proofs.Common.{ap, sym, ◌∙◌, is_some}
use Rattle.message_text.proofs.AlphabetLemmas.{width_plain, width_escaped, width_missing}
use Rattle.message_text.proofs.seven_bit.width.Goals as goal

pub returns-then-is_some-clause-value : goal.returns-then-is_some-clause-value
returns-then-is_some-clause-value c = width_plain c.args.letter (ap is_some (sym c.code_of.ensures) ∙ sym c.is_some.ensures ∙ c.if-is_some.true)

pub returns-then-is_some-2-clause-value : goal.returns-then-is_some-2-clause-value
returns-then-is_some-2-clause-value c =
    width_escaped c.args.letter (ap is_some (sym c.code_of.ensures) ∙ sym c.is_some.ensures ∙ c.if-is_some.false)
    (ap is_some (sym c.extended_code.ensures) ∙ sym c.is_some-else-is_some.ensures ∙ c.if-is_some-2.true)

pub returns-else-is_some-2-clause-value : goal.returns-else-is_some-2-clause-value
returns-else-is_some-2-clause-value c =
    width_missing c.args.letter (ap is_some (sym c.code_of.ensures) ∙ sym c.is_some.ensures ∙ c.if-is_some.false)
    (ap is_some (sym c.extended_code.ensures) ∙ sym c.is_some-else-is_some.ensures ∙ c.if-is_some-2.false)
