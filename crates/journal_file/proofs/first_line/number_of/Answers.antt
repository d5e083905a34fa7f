use Rattle.std.proofs.Common.{◌≡◌, ◌∙◌, Ok, Some, ap, sym}
use Rattle.journal_file.proofs.FirstLemmas.{decimal_utf8, number_reads}
use Rattle.journal_file.proofs.first_line.number_of.Goals as goal

-- the digits of a number are a text
pub returns-in_default : goal.returns-in_default
returns-in_default c n small is = absurd (c.in_default.ensures.cases.0 (decimal_utf8 n c.args.digits.now small is))

-- and are read as it
pub returns-in-Ok-parse : goal.returns-in-Ok-parse
returns-in-Ok-parse c n small is =
    cc (sym c.in-Ok-parse.is ∙ number_reads n c.in-Ok.text.now c.parse.result small (c.in-Ok.ensures.cases.0 ∙ is) c.parse.ensures.value.0)

pub returns-in-Err : goal.returns-in-Err
returns-in-Err c n small is =
    cc (sym c.in-Err.is ∙ number_reads n c.in-Ok.text.now c.parse.result small (c.in-Ok.ensures.cases.0 ∙ is) c.parse.ensures.value.0)
