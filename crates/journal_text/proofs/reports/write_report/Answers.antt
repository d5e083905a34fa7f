use Rattle.std.proofs.Common.{rules, true, ◌≡◌}
use Rattle.cbsp_messages.specs.Message.{type_of}
use Rattle.cbsp_messages.specs.MessageType.{is_report}
use Rattle.cbsp_messages.specs.Written.{Fits, plain}
use Rattle.hex.specs.Hex.{IsBytes}
use Rattle.journal_text.proofs.ReportLemmas.{has_frame}
use Rattle.journal_text.proofs.reports.write_report.Goals as goal

pub returns-clause-carried : goal.returns-clause-carried
returns-clause-carried c =
    let report : is_report (type_of c.args.message.now) ≡ true = search rules in
    let fits : Fits c.args.message.now = search rules in
    let same : plain c.args.message.now ≡ c.args.message.now = search rules in
    let octets : IsBytes c.in_ok-frame.frame.items = search rules in
    (λ carried. has_frame c.args.message.now c.in_ok-frame.frame.items report fits same c.in_ok-frame.ensures.frame c.in_ok-frame.ensures.short c.in_ok-frame.ensures.spelled octets, λ frame. search rules)
