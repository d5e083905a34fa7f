use Rattle.std.proofs.Common.{◌≡◌, true, Some, sym, ◌∙◌, ap}
use Rattle.std.specs.Cmp.{eq_by_cmp_equiv}
use Rattle.std.specs.Option.{is_some, option_map}
use Rattle.indexmap.proofs.CallerLemmas.{updates-with_value_at}
use Rattle.indexmap.specs.IndexMap.{with_value_at}
use Rattle.mirror.proofs.KeptLemmas.{found_at, lines_set}
use Rattle.mirror.proofs.LinesLemmas.{entry_is, is_in, kept_same, put_again, set_in_order, slots_again}
use Rattle.mirror.specs.Held.{is_held_line}
use Rattle.mirror.specs.Lines.{IsKept, kept_at, line_of, lines_at}
use Rattle.mirror.specs.Order.{slot_of}
use Rattle.mirror.specs.OrderLaws.{warning_slot_total}
use Rattle.mirror.proofs.lines.Lines.insert.Goals as goal

pub invariant_of-self : goal.invariant_of-self
invariant_of-self c =
    let k = c.args.key in
    let s = slot_of k.bsc k.cell k.warning in
    let ss = c.self.inside.order.keys in
    let es = c.self.inside.kept.entries in
    let at = c.pair_mut-kept.ensures in
    let is = entry_is s es c.in-Some.place c.pair_mut-kept.result.0.now c.pair_mut-kept.result.1.now at.value (rw c.of-slot.ensures at c.in-Some.ensures.found) in
    let fs = (with_value_at c.self.inside.kept c.in-Some.place c.args.line.now).entries in
    let new = updates-with_value_at c.self.inside.kept c.in-Some.place c.args.line.now (eq_by_cmp_equiv warning_slot_total) at.unique c.pair_mut-kept.result.0.now c.pair_mut-kept.result.1.now at.value in
    let set : IsKept s (Some c.args.line.now) es fs = rw is.0 at new.0 in
    let there : is_in s ss ≡ true = c.self.invariant s ∙ ap is_some (rw c.of-slot.ensures at c.in-Some.ensures.kept) in
    slots_again s c.args.line.now es fs ss set there c.self.invariant

pub returns-clause-old : goal.returns-clause-old
returns-clause-old c =
    let k = c.args.key in
    let s = slot_of k.bsc k.cell k.warning in
    let ss = c.self.inside.order.keys in
    let es = c.self.inside.kept.entries in
    let at = c.pair_mut-kept.ensures in
    let is = entry_is s es c.in-Some.place c.pair_mut-kept.result.0.now c.pair_mut-kept.result.1.now at.value (rw c.of-slot.ensures at c.in-Some.ensures.found) in
    let kept : kept_at es s ≡ Some (line_of es s) = rw c.of-slot.ensures at c.in-Some.ensures.kept in
    rw (← c.self.view_is) (ap Some (c.is_held-was.ensures ∙ ap is_held_line is.1) ∙ ap (option_map is_held_line) (sym kept ∙ sym (kept_same ss es c.self.invariant s) ∙ found_at k.bsc k.cell k.warning (lines_at ss es)))

pub returns-clause-set : goal.returns-clause-set
returns-clause-set c =
    let k = c.args.key in
    let s = slot_of k.bsc k.cell k.warning in
    let ss = c.self.inside.order.keys in
    let es = c.self.inside.kept.entries in
    let at = c.pair_mut-kept.ensures in
    let is = entry_is s es c.in-Some.place c.pair_mut-kept.result.0.now c.pair_mut-kept.result.1.now at.value (rw c.of-slot.ensures at c.in-Some.ensures.found) in
    let fs = (with_value_at c.self.inside.kept c.in-Some.place c.args.line.now).entries in
    let new = updates-with_value_at c.self.inside.kept c.in-Some.place c.args.line.now (eq_by_cmp_equiv warning_slot_total) at.unique c.pair_mut-kept.result.0.now c.pair_mut-kept.result.1.now at.value in
    let set : IsKept s (Some c.args.line.now) es fs = rw is.0 at new.0 in
    let there : is_in s ss ≡ true = c.self.invariant s ∙ ap is_some (rw c.of-slot.ensures at c.in-Some.ensures.kept) in
    rw (← c.self.view_is) (lines_set k.bsc k.cell k.warning (Some c.args.line.now) (lines_at ss es) (lines_at ss fs) (set_in_order s (Some c.args.line.now) es fs ss ss c.self.invariant (slots_again s c.args.line.now es fs ss set there c.self.invariant) set))

pub returns-clause-entries : goal.returns-clause-entries
returns-clause-entries c =
    let k = c.args.key in
    let s = slot_of k.bsc k.cell k.warning in
    let ss = c.self.inside.order.keys in
    let es = c.self.inside.kept.entries in
    let at = c.pair_mut-kept.ensures in
    let is = entry_is s es c.in-Some.place c.pair_mut-kept.result.0.now c.pair_mut-kept.result.1.now at.value (rw c.of-slot.ensures at c.in-Some.ensures.found) in
    let fs = (with_value_at c.self.inside.kept c.in-Some.place c.args.line.now).entries in
    let new = updates-with_value_at c.self.inside.kept c.in-Some.place c.args.line.now (eq_by_cmp_equiv warning_slot_total) at.unique c.pair_mut-kept.result.0.now c.pair_mut-kept.result.1.now at.value in
    let set : IsKept s (Some c.args.line.now) es fs = rw is.0 at new.0 in
    let there : is_in s ss ≡ true = c.self.invariant s ∙ ap is_some (rw c.of-slot.ensures at c.in-Some.ensures.kept) in
    rw (← c.self.view_is) (put_again s c.args.line.now es fs set ss c.len.ensures.ordered there)
