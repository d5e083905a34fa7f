use Rattle.std.proofs.Common.{◌≡◌, ◌∙◌, true, length, rules}
use Rattle.std.specs.List.Sorted.{IsStrictlySortedBy}
use Rattle.std.specs.Map.{keys_of}
use Rattle.mirror.proofs.CellLineLemmas.{same_warnings, warnings_ascend, warnings_have, warnings_few}
use Rattle.mirror.proofs.UntilLemmas.{told_few}
use Rattle.mirror.specs.Index.{kept_warnings}
use Rattle.mirror.specs.Order.{slot_cmp}
use Rattle.mirror.specs.Table.{counted_all}
use Rattle.mirror.proofs.line_table.LineTable.warnings_at.Goals as goal

pub returns-clause-warnings : goal.returns-clause-warnings
returns-clause-warnings c =
    let es = c.self.inside.lines in
    let found : c.add_warnings.new.warnings.items ≡ kept_warnings c.args.b c.args.c (λ h. true) c.self.inside.index = rw (c.slots.ensures, c.in_ok-warnings.ensures.items) at c.in_ok-add_warnings.ensures.warnings in
    let order : IsStrictlySortedBy slot_cmp (keys_of c.self.inside.index) = rw c.slots.ensures at c.in_ok-add_warnings.ensures.ordered in
    rw (← c.self.view_is) (found ∙ same_warnings c.args.b c.args.c c.self.inside.index es c.self.invariant.indexed c.self.invariant.none_blank order c.tell_order.ensures)

pub returns-clause-order : goal.returns-clause-order
returns-clause-order c =
    let es = c.self.inside.lines in
    let found : c.add_warnings.new.warnings.items ≡ kept_warnings c.args.b c.args.c (λ h. true) c.self.inside.index = rw (c.slots.ensures, c.in_ok-warnings.ensures.items) at c.in_ok-add_warnings.ensures.warnings in
    let order : IsStrictlySortedBy slot_cmp (keys_of c.self.inside.index) = rw c.slots.ensures at c.in_ok-add_warnings.ensures.ordered in
    rw (found ∙ same_warnings c.args.b c.args.c c.self.inside.index es c.self.invariant.indexed c.self.invariant.none_blank order c.tell_order.ensures) (warnings_ascend c.args.b c.args.c es c.tell_order.ensures)

pub returns-clause-which : goal.returns-clause-which
returns-clause-which c =
    let es = c.self.inside.lines in
    let found : c.add_warnings.new.warnings.items ≡ kept_warnings c.args.b c.args.c (λ h. true) c.self.inside.index = rw (c.slots.ensures, c.in_ok-warnings.ensures.items) at c.in_ok-add_warnings.ensures.warnings in
    let order : IsStrictlySortedBy slot_cmp (keys_of c.self.inside.index) = rw c.slots.ensures at c.in_ok-add_warnings.ensures.ordered in
    rw (← c.self.view_is) (rw (found ∙ same_warnings c.args.b c.args.c c.self.inside.index es c.self.invariant.indexed c.self.invariant.none_blank order c.tell_order.ensures) (warnings_have c.args.b c.args.c es c.self.invariant.none_blank c.tell_order.ensures))

pub returns-clause-few : goal.returns-clause-few
returns-clause-few c =
    let es = c.self.inside.lines in
    let found : c.add_warnings.new.warnings.items ≡ kept_warnings c.args.b c.args.c (λ h. true) c.self.inside.index = rw (c.slots.ensures, c.in_ok-warnings.ensures.items) at c.in_ok-add_warnings.ensures.warnings in
    let order : IsStrictlySortedBy slot_cmp (keys_of c.self.inside.index) = rw c.slots.ensures at c.in_ok-add_warnings.ensures.ordered in
    rw (← c.self.view_is) (rw (found ∙ same_warnings c.args.b c.args.c c.self.inside.index es c.self.invariant.indexed c.self.invariant.none_blank order c.tell_order.ensures) (warnings_few c.args.b c.args.c es c.self.invariant.none_blank c.tell_order.ensures))

pub returns-clause-most : goal.returns-clause-most
returns-clause-most c = λ ns all.
    let told : c.count_all.new.self.meter ≡ counted_all (length c.add_warnings.new.warnings.items) c.args.self.now.meter = search rules in
    told_few (length c.add_warnings.new.warnings.items) c.args.self.now.meter c.count_all.new.self.meter (length ns) told (returns-clause-few c ns all)
