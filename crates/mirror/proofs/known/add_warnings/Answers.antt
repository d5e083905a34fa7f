use Rattle.std.proofs.Common.{◌≡◌, Bool, ◌||◌, ◌++◌, not, [], ◌∷◌, true, false, sym, ◌∙◌, ap, rules}
use Rattle.std.proofs.lemmas.List.{append-nil, append_assoc}
use Rattle.std.specs.BTreeMap.Range.{entries_between}
use Rattle.std.specs.declared.ops.Bound.TheVariants.{Included, Unbounded}
use Rattle.mirror.proofs.CellLineLemmas.{from_all, from_later, kept_among, kept_end, kept_more, kept_passed}
use Rattle.mirror.specs.Index.{kept_warnings}
use Rattle.mirror.specs.Order.{Slot, slot_cmp, slot_of}
use Rattle.mirror.specs.Table.{is_slot_in}
use Rattle.mirror.proofs.known.add_warnings.Goals as goal

pub loop-slot-init : goal.loop-slot-init
loop-slot-init c =
    let test : Bool → Bool = λ h. not c.args.only_held || h in
    let part : c.range-later.result ≡ entries_between slot_cmp (Included (slot_of c.args.b c.args.c 0)) Unbounded c.args.slots.now.entries = rw c.first_of.ensures at (c.range-later.ensures.between tt) in
    let gives = c.into_iter-slot-iterator.ensures.into_iter_gives ∙ part in
    rw gives (from_all c.args.b c.args.c c.args.slots.now.entries c.range-later.ensures.ordered, ap (λ ws. c.args.warnings.now.items ++ ws) (kept_among c.args.b c.args.c test c.args.slots.now.entries))

pub loop-slot-preserved : goal.loop-slot-preserved
loop-slot-preserved c =
    let test : Bool → Bool = λ h. not c.args.only_held || h in
    let entry : Slot × Bool = (c.in-Some.slot.now, c.in-Some.is_held.now) in
    let came : c.loop-slot.slot-iterator ≡ entry ∷ c.next.new.self = search rules in
    let own : is_slot_in c.args.b c.args.c entry.0 ≡ true = search rules in
    let pass : test entry.1 ≡ true = search rules in
    let front = rw came at c.loop-slot.invariant in (
      from_later c.args.b c.args.c entry c.next.new.self front.0,
      ap (λ ws. ws ++ kept_warnings c.args.b c.args.c test c.next.new.self) (c.in_ok-push.ensures.items ∙ ap (λ n. c.loop-slot.warnings.items ++ n ∷ []) (c.new.ensures ∙ c.warning.ensures))
          ∙ append_assoc c.loop-slot.warnings.items (entry.0.warning ∷ []) (kept_warnings c.args.b c.args.c test c.next.new.self)
          ∙ ap (λ ws. c.loop-slot.warnings.items ++ ws) (sym (kept_more c.args.b c.args.c test entry c.next.new.self own pass))
          ∙ front.1,
    )

pub loop-slot-preserved-then-not-is_held : goal.loop-slot-preserved-then-not-is_held
loop-slot-preserved-then-not-is_held c =
    let test : Bool → Bool = λ h. not c.args.only_held || h in
    let entry : Slot × Bool = (c.in-Some.slot.now, c.in-Some.is_held.now) in
    let came : c.loop-slot.slot-iterator ≡ entry ∷ c.next.new.self = search rules in
    let pass : test entry.1 ≡ false = search rules in
    let front = rw came at c.loop-slot.invariant in (
      from_later c.args.b c.args.c entry c.next.new.self front.0,
      ap (λ ws. c.loop-slot.warnings.items ++ ws) (sym (kept_passed c.args.b c.args.c test entry c.next.new.self pass)) ∙ front.1,
    )

pub returns-then-not-is_in-clause-warnings : goal.returns-then-not-is_in-clause-warnings
returns-then-not-is_in-clause-warnings c =
    let test : Bool → Bool = λ h. not c.args.only_held || h in
    let entry : Slot × Bool = (c.in-Some.slot.now, c.in-Some.is_held.now) in
    let came : c.loop-slot.slot-iterator ≡ entry ∷ c.next.new.self = search rules in
    let other : is_slot_in c.args.b c.args.c entry.0 ≡ false = search rules in
    let front = rw came at c.loop-slot.invariant in
    sym (ap (λ ws. c.loop-slot.warnings.items ++ ws) (kept_end c.args.b c.args.c test entry c.next.new.self front.0 other) ∙ append-nil c.loop-slot.warnings.items) ∙ front.1
