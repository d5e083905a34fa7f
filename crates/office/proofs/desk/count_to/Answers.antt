use Rattle.std.proofs.Common.{rules, ap, ◌+◌, ◌<◌, ◌≤◌, length, get_or}
use Rattle.std.proofs.lemmas.List.Elements.{All-more}
use Rattle.office.specs.declared.receipt.Receipt.{Receipt}
use Rattle.office.proofs.desk.count_to.Goals as goal

pub loop-receipt-preserved : goal.loop-receipt-preserved
loop-receipt-preserved c =
    let within : c.loop-receipt.receipt-index < length c.args.receipts.now = search rules in
    let low : (get_or c.args.receipts.now c.loop-receipt.receipt-index c.receipt-item.result).place ≤ c.args.place = search rules in
    (ap (λ n. n + 1) c.loop-receipt.invariant.0, All-more (λ (r : Receipt). r.place ≤ c.args.place) c.args.receipts.now c.loop-receipt.receipt-index c.receipt-item.result within c.loop-receipt.invariant.1 low)
