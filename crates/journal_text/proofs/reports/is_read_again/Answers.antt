use Rattle.std.proofs.Common.{subst, sym}
use Rattle.cbsp_messages.specs.MessageType.{code_of}
use Rattle.cbsp_messages.specs.Spelling.{Spells}
use Rattle.cbsp_messages.specs.Written.{plain}
use Rattle.journal_text.proofs.ReportLemmas.{same_read}
use Rattle.journal_text.proofs.reports.is_read_again.Goals as goal

pub returns-in-Ok : goal.returns-in-Ok
returns-in-Ok c =
    same_read c.args.message.now c.in-Ok.read c.same-same.result
    (c.in-Ok.ensures.only (plain c.args.message.now) (subst (λ t. Spells (code_of t) c.args.body.now (plain c.args.message.now)) (sym c.message_type.ensures) c.requires)) c.same-same.ensures
