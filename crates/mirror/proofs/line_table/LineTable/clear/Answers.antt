use Rattle.std.proofs.Common.{◌≡◌, ◌∙◌, sym, not, None}
use Rattle.std.specs.BTreeMap.{is_at}
use Rattle.std.specs.Map.{lookup}
use Rattle.mirror.proofs.KeptLemmas.{all_remove_entry}
use Rattle.mirror.proofs.TableLemmas.{absent, indexed_without, nothing, numbered_without}
use Rattle.mirror.specs.Blank.{is_blank}
use Rattle.mirror.specs.Order.{warning_slot_cmp, slot_of}
use Rattle.mirror.specs.Table.{is_slot}
use Rattle.mirror.specs.declared.line.Line.{Line}
use Rattle.mirror.proofs.line_table.LineTable.clear.Goals as goal

pub invariant_of-self : goal.invariant_of-self
invariant_of-self c =
    let k = c.args.key in
    let es = c.self.inside.lines in
    record {
      none_blank = rw c.remove.ensures.entries (all_remove_entry (is_at (warning_slot_cmp (slot_of k.bsc k.cell k.warning))) (λ (line : Line). not (is_blank line)) es c.self.invariant.none_blank);
      indexed = indexed_without k c.self.inside.index c.remove-then-remove.new.self es c.remove.new.self c.remove-then-remove.ensures c.remove.ensures.set c.self.invariant.indexed;
      numbered = numbered_without k c.self.inside.index c.remove-then-remove.new.self c.remove-then-remove.ensures c.self.invariant.numbered;
    }

pub invariant_of-self-else-remove : goal.invariant_of-self-else-remove
invariant_of-self-else-remove c =
    let k = c.args.key in
    let es = c.self.inside.lines in
    let none : lookup (is_slot k.bsc k.cell k.warning) es ≡ None = nothing (lookup (is_slot k.bsc k.cell k.warning) es) (sym c.remove.ensures.kept ∙ c.if-remove.false) in
    record {
      none_blank = rw c.remove.ensures.entries (all_remove_entry (is_at (warning_slot_cmp (slot_of k.bsc k.cell k.warning))) (λ (line : Line). not (is_blank line)) es c.self.invariant.none_blank);
      indexed = indexed_without k c.self.inside.index c.self.inside.index es c.remove.new.self (absent k c.self.inside.index es c.self.invariant.indexed none) c.remove.ensures.set c.self.invariant.indexed;
      numbered = c.self.invariant.numbered;
    }
