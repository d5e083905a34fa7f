use Rattle.std.proofs.Common.{rules, ◌≡◌, ◌+◌, ◌++◌, [], ◌∷◌, ◌∙◌, length, ap, arith}
use Rattle.common.specs.SumLaws.{sum_append}
use Rattle.office.specs.Desks.{DeskState}
use Rattle.office.specs.Shuffles.{receipt_count}
use Rattle.office.proofs.auditing.audit.Goals as goal

pub loop-desk-preserved : goal.loop-desk-preserved
loop-desk-preserved g c =
    let split : c.loop-desk.desks.items ≡ c.pop.new.self.items ++ c.in-Some.desk ∷ [] = search rules in
    let sum : receipt_count c.loop-desk.desks.items ≡ receipt_count c.pop.new.self.items + (length c.in-Some.desk.receipts + 0) = ap receipt_count split ∙ sum_append (λ (d : DeskState). length d.receipts) c.pop.new.self.items (c.in-Some.desk ∷ []) in
    let merged = c.merge.ensures.amount in
    let share = c.into_share.ensures in
    let before = c.loop-desk.invariant in
    omega (arith, sum, merged, share, before)
