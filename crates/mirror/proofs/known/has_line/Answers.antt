use Rattle.std.proofs.Common.{◌≡◌, [], ◌∷◌, ◌∙◌, sym, ap, rules}
use Rattle.std.specs.BTreeMap.Range.{entries_between}
use Rattle.std.specs.declared.ops.Bound.TheVariants.{Included, Unbounded}
use Rattle.mirror.proofs.OwnLemmas.{begins_with, first_tells}
use Rattle.mirror.specs.Order.{slot_cmp, slot_of}
use Rattle.mirror.specs.Table.{is_slot_in}
use Rattle.mirror.proofs.known.has_line.Goals as goal

pub returns-in-Some : goal.returns-in-Some
returns-in-Some c =
    let part : c.range-later.result ≡ entries_between slot_cmp (Included (slot_of c.args.b c.args.c 0)) Unbounded c.args.slots.now.entries = rw c.first_of.ensures at (c.range-later.ensures.between tt) in
    let came : c.range-later.result ≡ (c.in-Some.slot.now, c.in-Some.field-0-1.now) ∷ c.next.new.self = search rules in
    let own : c.is_in.result ≡ is_slot_in c.args.b c.args.c c.in-Some.slot.now = search rules in
    own ∙ ap (begins_with c.args.b c.args.c) (sym came ∙ part) ∙ first_tells c.args.b c.args.c c.args.slots.now.entries c.range-later.ensures.ordered

pub returns-in-None : goal.returns-in-None
returns-in-None c =
    let part : c.range-later.result ≡ entries_between slot_cmp (Included (slot_of c.args.b c.args.c 0)) Unbounded c.args.slots.now.entries = rw c.first_of.ensures at (c.range-later.ensures.between tt) in
    let none : c.range-later.result ≡ [] = search rules in
    ap (begins_with c.args.b c.args.c) (sym none ∙ part) ∙ first_tells c.args.b c.args.c c.args.slots.now.entries c.range-later.ensures.ordered
