use Rattle.std.proofs.Common.{◌≡◌, true, false, None, sym, ◌∙◌, ap, rules}
use Rattle.std.specs.BTreeMap.{is_at}
use Rattle.std.specs.Option.{is_some}
use Rattle.std.specs.Set.{remove_key}
use Rattle.mirror.proofs.KeptLemmas.{found_at, lines_set}
use Rattle.mirror.proofs.LinesLemmas.{is_in, kept_same, none_taken, set_in_order, slots_set, taken_out}
use Rattle.mirror.specs.Lines.{AreSlotsOf, IsKept, kept_at, lines_at}
use Rattle.mirror.specs.Order.{slot_of, warning_slot_cmp}
use Rattle.mirror.proofs.lines.Lines.remove.Goals as goal

pub returns-then-is_none-clause-kept : goal.returns-then-is_none-clause-kept
returns-then-is_none-clause-kept c =
    let k = c.args.key in
    let s = slot_of k.bsc k.cell k.warning in
    let ss = c.self.inside.order.keys in
    let es = c.self.inside.kept.entries in
    let gone : c.swap_remove.result ≡ None = search rules in
    let found : c.swap_remove.result ≡ kept_at es s = rw c.of-slot.ensures at c.swap_remove.ensures.value in
    rw (← c.self.view_is) (ap is_some (sym gone ∙ found ∙ sym (kept_same ss es c.self.invariant s) ∙ found_at k.bsc k.cell k.warning (lines_at ss es)))

pub returns-then-is_none-clause-set : goal.returns-then-is_none-clause-set
returns-then-is_none-clause-set c =
    let k = c.args.key in
    let s = slot_of k.bsc k.cell k.warning in
    let ss = c.self.inside.order.keys in
    let es = c.self.inside.kept.entries in
    let fs = c.swap_remove.new.self.entries in
    let gone : c.swap_remove.result ≡ None = search rules in
    let set : IsKept s None es fs = rw c.of-slot.ensures at c.swap_remove.ensures.updates.0 in
    let same : fs ≡ es = rw gone at c.swap_remove.ensures.unchanged in
    let after : AreSlotsOf ss fs = rw same c.self.invariant in
    rw (← c.self.view_is) (lines_set k.bsc k.cell k.warning None (lines_at ss es) (lines_at ss fs) (set_in_order s None es fs ss ss c.self.invariant after set))

pub returns-then-is_none-clause-entries : goal.returns-then-is_none-clause-entries
returns-then-is_none-clause-entries c =
    let k = c.args.key in
    let s = slot_of k.bsc k.cell k.warning in
    let ss = c.self.inside.order.keys in
    let es = c.self.inside.kept.entries in
    let fs = c.swap_remove.new.self.entries in
    let gone : c.swap_remove.result ≡ None = search rules in
    let found : c.swap_remove.result ≡ kept_at es s = rw c.of-slot.ensures at c.swap_remove.ensures.value in
    let same : fs ≡ es = rw gone at c.swap_remove.ensures.unchanged in
    let absent : is_in s ss ≡ false = c.self.invariant s ∙ ap is_some (sym found ∙ gone) in
    rw (← c.self.view_is, same) (none_taken s ss es absent)

pub returns-clause-kept : goal.returns-clause-kept
returns-clause-kept c =
    let k = c.args.key in
    let s = slot_of k.bsc k.cell k.warning in
    let ss = c.self.inside.order.keys in
    let es = c.self.inside.kept.entries in
    let found : c.swap_remove.result ≡ kept_at es s = rw c.of-slot.ensures at c.swap_remove.ensures.value in
    let there : is_some c.swap_remove.result ≡ true = search rules in
    rw (← c.self.view_is) (sym there ∙ ap is_some (found ∙ sym (kept_same ss es c.self.invariant s) ∙ found_at k.bsc k.cell k.warning (lines_at ss es)))

pub returns-clause-set : goal.returns-clause-set
returns-clause-set c =
    let k = c.args.key in
    let s = slot_of k.bsc k.cell k.warning in
    let ss = c.self.inside.order.keys in
    let es = c.self.inside.kept.entries in
    let fs = c.swap_remove.new.self.entries in
    let ts = c.remove.new.self.keys in
    let set : IsKept s None es fs = rw c.of-slot.ensures at c.swap_remove.ensures.updates.0 in
    let after : AreSlotsOf ts fs = slots_set s None es fs ss ts set (rw c.of-slot.ensures at c.remove.ensures.updates.0) c.self.invariant in
    rw (← c.self.view_is, c.give_back.ensures) (lines_set k.bsc k.cell k.warning None (lines_at ss es) (lines_at ts fs) (set_in_order s None es fs ss ts c.self.invariant after set))

pub returns-clause-entries : goal.returns-clause-entries
returns-clause-entries c =
    let k = c.args.key in
    let s = slot_of k.bsc k.cell k.warning in
    let ss = c.self.inside.order.keys in
    let es = c.self.inside.kept.entries in
    let fs = c.swap_remove.new.self.entries in
    let ts = c.remove.new.self.keys in
    let set : IsKept s None es fs = rw c.of-slot.ensures at c.swap_remove.ensures.updates.0 in
    let taken : ts ≡ remove_key (is_at (warning_slot_cmp s)) ss = rw c.of-slot.ensures at c.remove.ensures.keys in
    let none : is_in s ts ≡ false = rw c.of-slot.ensures at c.remove.ensures.updates.1 in
    rw (← c.self.view_is, c.give_back.ensures, taken) (taken_out s es fs set ss (rw taken at none))

pub invariant_of-self-2 : goal.invariant_of-self-2
invariant_of-self-2 c =
    let k = c.args.key in
    let s = slot_of k.bsc k.cell k.warning in
    let ss = c.self.inside.order.keys in
    let es = c.self.inside.kept.entries in
    let fs = c.swap_remove.new.self.entries in
    let ts = c.remove.new.self.keys in
    let set : IsKept s None es fs = rw c.of-slot.ensures at c.swap_remove.ensures.updates.0 in
    let after : AreSlotsOf ts fs = slots_set s None es fs ss ts set (rw c.of-slot.ensures at c.remove.ensures.updates.0) c.self.invariant in
    rw c.give_back.ensures after
