use Rattle.std.proofs.Common.{◌≡◌, true, false, Some, None, sym, ◌∙◌, ap, rules}
use Rattle.std.specs.BTreeSet.{insert_key}
use Rattle.std.specs.Map.{lookup}
use Rattle.std.specs.Option.{is_some, option_map}
use Rattle.mirror.proofs.KeptLemmas.{found_at, lines_set}
use Rattle.mirror.proofs.LinesLemmas.{is_in, kept_back, kept_same, lines_same, put_again, put_new, set_in_order, slots_again, slots_back, slots_set}
use Rattle.mirror.specs.Held.{is_held_line}
use Rattle.mirror.specs.Lines.{AreSlotsOf, IsKept, kept_at, lines_at}
use Rattle.mirror.specs.Order.{slot_of, warning_slot_cmp}
use Rattle.mirror.specs.Table.{is_slot}
use Rattle.mirror.proofs.lines.Lines.put.Goals as goal

pub returns-in_err-old-clause-grows : goal.returns-in_err-old-clause-grows
returns-in_err-old-clause-grows c =
    let k = c.args.key in
    let s = slot_of k.bsc k.cell k.warning in
    let ss = c.self.inside.order.keys in
    let es = c.self.inside.kept.entries in
    let none : lookup (is_slot k.bsc k.cell k.warning) c.args.self.now ≡ None = rw (← c.self.view_is) (sym (found_at k.bsc k.cell k.warning (lines_at ss es)) ∙ kept_same ss es c.self.invariant s ∙ rw c.of.ensures at c.in_err-old.ensures.absent) in
    search (rules, none)

pub invariant_of-self-in-Some : goal.invariant_of-self-in-Some
invariant_of-self-in-Some c =
    let k = c.args.key in
    let s = slot_of k.bsc k.cell k.warning in
    let ss = c.self.inside.order.keys in
    let es = c.self.inside.kept.entries in
    let set : IsKept s (Some c.args.line.now) es c.insert.new.self.entries = rw c.of.ensures at c.in_ok-old.ensures.updates.0 in
    let there : is_in s ss ≡ true = c.self.invariant s ∙ ap is_some (sym (rw c.of.ensures at c.in_ok-old.ensures.old) ∙ c.in-Some.is) in
    slots_again s c.args.line.now es c.insert.new.self.entries ss set there c.self.invariant

pub returns-in-Some-clause-old : goal.returns-in-Some-clause-old
returns-in-Some-clause-old c =
    let k = c.args.key in
    let s = slot_of k.bsc k.cell k.warning in
    let ss = c.self.inside.order.keys in
    let es = c.self.inside.kept.entries in
    let old : kept_at es s ≡ Some c.in-Some.was = sym (rw c.of.ensures at c.in_ok-old.ensures.old) ∙ c.in-Some.is in
    rw (← c.self.view_is) (ap Some c.is_held.ensures ∙ ap (option_map is_held_line) (sym old ∙ sym (kept_same ss es c.self.invariant s) ∙ found_at k.bsc k.cell k.warning (lines_at ss es)))

pub returns-in-Some-clause-set : goal.returns-in-Some-clause-set
returns-in-Some-clause-set c =
    let k = c.args.key in
    let s = slot_of k.bsc k.cell k.warning in
    let ss = c.self.inside.order.keys in
    let es = c.self.inside.kept.entries in
    let set : IsKept s (Some c.args.line.now) es c.insert.new.self.entries = rw c.of.ensures at c.in_ok-old.ensures.updates.0 in
    let there : is_in s ss ≡ true = c.self.invariant s ∙ ap is_some (sym (rw c.of.ensures at c.in_ok-old.ensures.old) ∙ c.in-Some.is) in
    rw (← c.self.view_is) (lines_set k.bsc k.cell k.warning (Some c.args.line.now) (lines_at ss es) (lines_at ss c.insert.new.self.entries) (set_in_order s (Some c.args.line.now) es c.insert.new.self.entries ss ss c.self.invariant (slots_again s c.args.line.now es c.insert.new.self.entries ss set there c.self.invariant) set))

pub returns-in-Some-clause-entries : goal.returns-in-Some-clause-entries
returns-in-Some-clause-entries c =
    let k = c.args.key in
    let s = slot_of k.bsc k.cell k.warning in
    let ss = c.self.inside.order.keys in
    let es = c.self.inside.kept.entries in
    let set : IsKept s (Some c.args.line.now) es c.insert.new.self.entries = rw c.of.ensures at c.in_ok-old.ensures.updates.0 in
    let there : is_in s ss ≡ true = c.self.invariant s ∙ ap is_some (sym (rw c.of.ensures at c.in_ok-old.ensures.old) ∙ c.in-Some.is) in
    rw (← c.self.view_is) (put_again s c.args.line.now es c.insert.new.self.entries set ss c.len.ensures.ordered there)

pub invariant_of-self-in-Err : goal.invariant_of-self-in-Err
invariant_of-self-in-Err c =
    let k = c.args.key in
    let s = slot_of k.bsc k.cell k.warning in
    let ss = c.self.inside.order.keys in
    let es = c.self.inside.kept.entries in
    let set : IsKept s (Some c.args.line.now) es c.insert.new.self.entries = rw c.of.ensures at c.in_ok-old.ensures.updates.0 in
    let taken : IsKept s None c.insert.new.self.entries c.swap_remove.new.self.entries = rw (c.in-Err.ensures.value_returned, c.of-slot.ensures) at c.swap_remove.ensures.updates.0 in
    let none : kept_at es s ≡ None = slots_back s ss es (c.self.invariant s) (rw c.of-slot.ensures at c.in-Err.ensures.absent) in
    rw c.in-Err.ensures.err (λ q. c.self.invariant q ∙ ap is_some (sym (kept_back s c.args.line.now es c.insert.new.self.entries c.swap_remove.new.self.entries none set taken q)))

pub returns-in-Ok-clause-old : goal.returns-in-Ok-clause-old
returns-in-Ok-clause-old c =
    let k = c.args.key in
    let s = slot_of k.bsc k.cell k.warning in
    let ss = c.self.inside.order.keys in
    let es = c.self.inside.kept.entries in
    let none : c.in_ok-old.old ≡ None = search rules in
    let old : kept_at es s ≡ None = sym (rw c.of.ensures at c.in_ok-old.ensures.old) ∙ none in
    rw (← c.self.view_is) (ap (option_map is_held_line) (sym old ∙ sym (kept_same ss es c.self.invariant s) ∙ found_at k.bsc k.cell k.warning (lines_at ss es)))

pub returns-in-Ok-clause-set : goal.returns-in-Ok-clause-set
returns-in-Ok-clause-set c =
    let k = c.args.key in
    let s = slot_of k.bsc k.cell k.warning in
    let ss = c.self.inside.order.keys in
    let es = c.self.inside.kept.entries in
    let fs = c.insert.new.self.entries in
    let ts = c.insert-2.new.self.keys in
    let set : IsKept s (Some c.args.line.now) es fs = rw c.of.ensures at c.in_ok-old.ensures.updates.0 in
    let after : AreSlotsOf ts fs = slots_set s (Some c.args.line.now) es fs ss ts set (rw c.of-slot.ensures at c.in-Ok.ensures.updates.0) c.self.invariant in
    rw (← c.self.view_is) (lines_set k.bsc k.cell k.warning (Some c.args.line.now) (lines_at ss es) (lines_at ts fs) (set_in_order s (Some c.args.line.now) es fs ss ts c.self.invariant after set))

pub returns-in-Ok-clause-entries : goal.returns-in-Ok-clause-entries
returns-in-Ok-clause-entries c =
    let k = c.args.key in
    let s = slot_of k.bsc k.cell k.warning in
    let ss = c.self.inside.order.keys in
    let es = c.self.inside.kept.entries in
    let fs = c.insert.new.self.entries in
    let set : IsKept s (Some c.args.line.now) es fs = rw c.of.ensures at c.in_ok-old.ensures.updates.0 in
    let put : c.insert-2.new.self.keys ≡ insert_key warning_slot_cmp ss s = rw c.of-slot.ensures at c.in-Ok.ensures.keys in
    let old : c.in_ok-old.old ≡ None = search rules in
    let none : is_in s ss ≡ false = c.self.invariant s ∙ ap is_some (sym (rw c.of.ensures at c.in_ok-old.ensures.old) ∙ old) in
    rw (← c.self.view_is, put) (put_new s c.args.line.now es fs set ss none)

pub returns-in-Err-clause-unchanged : goal.returns-in-Err-clause-unchanged
returns-in-Err-clause-unchanged c =
    let k = c.args.key in
    let s = slot_of k.bsc k.cell k.warning in
    let ss = c.self.inside.order.keys in
    let es = c.self.inside.kept.entries in
    let set : IsKept s (Some c.args.line.now) es c.insert.new.self.entries = rw c.of.ensures at c.in_ok-old.ensures.updates.0 in
    let taken : IsKept s None c.insert.new.self.entries c.swap_remove.new.self.entries = rw (c.in-Err.ensures.value_returned, c.of-slot.ensures) at c.swap_remove.ensures.updates.0 in
    let none : kept_at es s ≡ None = slots_back s ss es (c.self.invariant s) (rw c.of-slot.ensures at c.in-Err.ensures.absent) in
    rw (← c.self.view_is, c.in-Err.ensures.err) (lines_same ss es c.swap_remove.new.self.entries (kept_back s c.args.line.now es c.insert.new.self.entries c.swap_remove.new.self.entries none set taken))

pub returns-in-Err-clause-grows : goal.returns-in-Err-clause-grows
returns-in-Err-clause-grows c =
    let k = c.args.key in
    let s = slot_of k.bsc k.cell k.warning in
    let ss = c.self.inside.order.keys in
    let es = c.self.inside.kept.entries in
    rw (← c.self.view_is) (sym (found_at k.bsc k.cell k.warning (lines_at ss es)) ∙ kept_same ss es c.self.invariant s ∙ slots_back s ss es (c.self.invariant s) (rw c.of-slot.ensures at c.in-Err.ensures.absent))
