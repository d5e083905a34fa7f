use Rattle.std.proofs.Common.{sym, ◌∙◌}
use Rattle.link_rules.proofs.NumberLemmas.{no_number, digits_utf8}
use Rattle.link_rules.proofs.reading.read_number.Goals as goal

pub returns-then-not-has_digits_alone : goal.returns-then-not-has_digits_alone
returns-then-not-has_digits_alone c n is = absurd (no_number c.args.word.now n (sym c.has_digits_alone.ensures ∙ c.if-not-has_digits_alone.true) is)

pub returns-in_default : goal.returns-in_default
returns-in_default c n is = absurd (c.in_default.ensures.cases.0 (digits_utf8 c.args.word.now (sym c.has_digits_alone.ensures ∙ c.if-not-has_digits_alone.false)))
