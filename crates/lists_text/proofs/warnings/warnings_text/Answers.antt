use Rattle.std.proofs.Common.{◌+◌, ◌++◌, ◌∙◌, ap, drop}
use Rattle.std.specs.List.{flat_map}
use Rattle.message_text.proofs.ListLemmas.{rest_made}
use Rattle.lists_text.specs.ListTexts.{warning_line}
use Rattle.lists_text.proofs.warnings.warnings_text.Goals as goal

pub loop-row-preserved : goal.loop-row-preserved
loop-row-preserved c =
    let l = c.loop-row in
    ap (λ text. text ++ flat_map warning_line (drop (l.row-index + 1) c.args.rows.now)) c.in_ok-push_warning.ensures
    ∙ rest_made warning_line c.args.rows.now l.row-index c.row-item.result c.row-item.result l.text.items c.loop-row-test.true c.row-item.is l.invariant
