use Rattle.std.proofs.Common.{arith, rules, ◌≡◌, ◌≤◌, ◌<◌, ◌-◌, ◌++◌, ◌∷◌, true, false, length, take, sym, ◌∙◌, ap}
use Rattle.std.proofs.lemmas.Grind.{common_steps}
use Rattle.mirror.proofs.OnAirLemmas.{cells_more, next_counted, next_off_air, next_on_air, one_there}
use Rattle.mirror.proofs.UntilLemmas.{counted_off, counted_on}
use Rattle.mirror.specs.Lines.{line_of, lines_at}
use Rattle.mirror.specs.OnAir.{is_on_air_in, is_slot_for, lines_for, on_air_cells}
use Rattle.mirror.specs.Order.{Slot}
use Rattle.mirror.specs.declared.line.Line.{Line}
use Rattle.mirror.proofs.on_air.first_on_air.Goals as goal

pub loop-slot-preserved : goal.loop-slot-preserved
loop-slot-preserved c =
    let v = c.args.v.now in
    let es = c.args.lines.now in
    let entry : Slot × Line = (c.in-Some.slot.now, line_of es c.in-Some.slot.now) in
    let rest = lines_at c.next.new.self es in
    let cells = c.loop-slot.cells.items in
    let next : c.loop-slot.slot-iterator ≡ c.in-Some.slot.now ∷ c.next.new.self = search rules in
    let came : lines_at c.loop-slot.slot-iterator es ≡ entry ∷ rest = ap (λ ss. lines_at ss es) next in
    let own : is_slot_for v.bsc v.warning entry.0 ≡ true = search rules in
    let air : is_on_air_in v.serial entry.1 ≡ true = search rules in
    let few : length cells < c.args.most = omega arith in
    let more = next_on_air v.bsc v.warning v.serial entry rest (lines_at c.loop-slot.slot-iterator es) came own air in
    let all = c.loop-slot.invariant.1 in
    let long = next_counted v.bsc v.warning entry rest (lines_at c.loop-slot.slot-iterator es) came own in (
      rw (rw c.cell.ensures at c.in_ok-push.ensures.items) (cells_more c.args.most entry.0.cell cells (on_air_cells v.serial (lines_for v.bsc v.warning rest)) few
          ∙ ap (λ cs. cells ++ take (c.args.most - length cells) cs) (sym more)
          ∙ c.loop-slot.invariant.0),
      grind (arith, common_steps, all, long),
      rw (rw c.cell.ensures at c.in_ok-push.ensures.items) (counted_on v.bsc v.warning v.serial c.args.most cells entry.0.cell entry rest (lines_at c.loop-slot.slot-iterator es) came own air few c.loop-slot.meter _ _ c.saturating_add.ensures c.loop-slot.invariant.2),
      grind (arith, common_steps, c.loop-slot.invariant.3),
      omega (arith, c.saturating_add.ensures),
    )

pub loop-slot-preserved-then-not-is_on_air_in : goal.loop-slot-preserved-then-not-is_on_air_in
loop-slot-preserved-then-not-is_on_air_in c =
    let v = c.args.v.now in
    let es = c.args.lines.now in
    let entry : Slot × Line = (c.in-Some.slot.now, line_of es c.in-Some.slot.now) in
    let rest = lines_at c.next.new.self es in
    let cells = c.loop-slot.cells.items in
    let next : c.loop-slot.slot-iterator ≡ c.in-Some.slot.now ∷ c.next.new.self = search rules in
    let came : lines_at c.loop-slot.slot-iterator es ≡ entry ∷ rest = ap (λ ss. lines_at ss es) next in
    let own : is_slot_for v.bsc v.warning entry.0 ≡ true = search rules in
    let air : is_on_air_in v.serial entry.1 ≡ false = search rules in
    let few : length cells < c.args.most = omega arith in
    let same = next_off_air v.bsc v.warning v.serial entry rest (lines_at c.loop-slot.slot-iterator es) came own air in
    let all = c.loop-slot.invariant.1 in
    let long = next_counted v.bsc v.warning entry rest (lines_at c.loop-slot.slot-iterator es) came own in (
      ap (λ cs. cells ++ take (c.args.most - length cells) cs) (sym same) ∙ c.loop-slot.invariant.0,
      grind (arith, common_steps, all, long),
      counted_off v.bsc v.warning v.serial c.args.most cells entry rest (lines_at c.loop-slot.slot-iterator es) came own air few c.loop-slot.meter _ _ c.saturating_add.ensures c.loop-slot.invariant.2,
      grind (arith, common_steps, c.loop-slot.invariant.3),
      omega (arith, c.saturating_add.ensures),
    )

pub returns-in_err-push-clause-some : goal.returns-in_err-push-clause-some
returns-in_err-push-clause-some c =
    let v = c.args.v.now in
    let es = c.args.lines.now in
    let entry : Slot × Line = (c.in-Some.slot.now, line_of es c.in-Some.slot.now) in
    let rest = lines_at c.next.new.self es in
    let cells = c.loop-slot.cells.items in
    let next : c.loop-slot.slot-iterator ≡ c.in-Some.slot.now ∷ c.next.new.self = search rules in
    let came : lines_at c.loop-slot.slot-iterator es ≡ entry ∷ rest = ap (λ ss. lines_at ss es) next in
    let own : is_slot_for v.bsc v.warning entry.0 ≡ true = search rules in
    let air : is_on_air_in v.serial entry.1 ≡ true = search rules in
    let few : length cells < c.args.most = omega arith in
    let more = next_on_air v.bsc v.warning v.serial entry rest (lines_at c.loop-slot.slot-iterator es) came own air in
    let first = ap (λ cs. cells ++ take (c.args.most - length cells) cs) (sym more) ∙ c.loop-slot.invariant.0 in
    let some : 1 ≤ length (take c.args.most (on_air_cells v.serial (lines_for v.bsc v.warning (lines_at c.args.slots es)))) = rw (← first) (one_there c.args.most entry.0.cell cells (on_air_cells v.serial (lines_for v.bsc v.warning rest)) few) in
    search (rules, some)
