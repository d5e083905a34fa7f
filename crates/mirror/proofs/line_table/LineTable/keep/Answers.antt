use Rattle.std.proofs.Common.{◌≡◌, ◌∙◌, ap, sym, not, Some, None}
use Rattle.std.proofs.lemmas.Bool.{not_from_false}
use Rattle.std.specs.BTreeMap.{is_at}
use Rattle.std.specs.Map.{lookup}
use Rattle.std.specs.Option.{unwrap_or}
use Rattle.mirror.proofs.KeptLemmas.{found_at, all_insert_entry}
use Rattle.mirror.proofs.TableLemmas.{already, indexed_with, kept_entry, not_entered, numbered_with, same_entry, taken_back}
use Rattle.mirror.specs.Blank.{is_blank}
use Rattle.mirror.specs.Held.{is_held_line}
use Rattle.mirror.specs.Index.{IsEntered}
use Rattle.mirror.specs.Line.{blank_line}
use Rattle.mirror.specs.Order.{slot_of, warning_slot_cmp}
use Rattle.mirror.specs.Table.{is_slot}
use Rattle.mirror.specs.declared.line.Line.{Line}
use Rattle.mirror.proofs.line_table.LineTable.keep.Goals as goal

pub invariant_of-self-then-eq : goal.invariant_of-self-then-eq
invariant_of-self-then-eq c =
    let k = c.args.key in
    let es = c.self.inside.lines in
    let same : c.in_ok-insert.field-0 ≡ Some (is_held_line c.args.line.now) = same_entry c.in_ok-insert.field-0 c.is_held-is_held.result (sym c.eq.ensures ∙ c.if-eq.true) ∙ ap Some c.is_held-is_held.ensures in
    let entry : lookup (is_slot k.bsc k.cell k.warning) c.self.inside.index ≡ Some (is_held_line c.args.line.now) = kept_entry k c.self.inside.index es c.self.invariant.none_blank c.self.invariant.indexed (is_held_line c.args.line.now) (sym c.in_ok-insert.ensures.old ∙ same) in
    record {
      none_blank = rw c.in_ok-insert.ensures.entries (all_insert_entry warning_slot_cmp (λ (line : Line). not (is_blank line)) (slot_of k.bsc k.cell k.warning) c.args.line.now (not_from_false (is_blank c.args.line.now) c.requires) es c.self.invariant.none_blank);
      indexed = indexed_with k c.args.line.now c.requires c.self.inside.index c.self.inside.index es c.insert.new.self (already k (Some (is_held_line c.args.line.now)) c.self.inside.index entry) c.in_ok-insert.ensures.set c.self.invariant.indexed;
      numbered = c.self.invariant.numbered;
    }

pub invariant_of-self-in-Ok : goal.invariant_of-self-in-Ok
invariant_of-self-in-Ok c =
    let k = c.args.key in
    let es = c.self.inside.lines in
    let entered : IsEntered k (Some (is_held_line c.args.line.now)) c.self.inside.index c.insert-2.new.self = rw c.is_held-is_held.ensures at c.in-Ok.ensures.entered in
    record {
      none_blank = rw c.in_ok-insert.ensures.entries (all_insert_entry warning_slot_cmp (λ (line : Line). not (is_blank line)) (slot_of k.bsc k.cell k.warning) c.args.line.now (not_from_false (is_blank c.args.line.now) c.requires) es c.self.invariant.none_blank);
      indexed = indexed_with k c.args.line.now c.requires c.self.inside.index c.insert-2.new.self es c.insert.new.self entered c.in_ok-insert.ensures.set c.self.invariant.indexed;
      numbered = numbered_with k (Some (is_held_line c.args.line.now)) c.self.inside.index c.insert-2.new.self c.in-Ok.ensures.numbered entered c.self.invariant.numbered;
    }

pub invariant_of-self-in-Err : goal.invariant_of-self-in-Err
invariant_of-self-in-Err c =
    let k = c.args.key in
    let es = c.self.inside.lines in
    let gone : lookup (is_at (warning_slot_cmp (slot_of k.bsc k.cell k.warning))) es ≡ None = found_at k.bsc k.cell k.warning es ∙ not_entered k c.self.inside.index es c.self.invariant.none_blank c.self.invariant.indexed c.in-Err.ensures.grows in
    let same : c.remove.new.self ≡ es = c.remove.ensures.entries ∙ rw c.in_ok-insert.ensures.entries (taken_back (slot_of k.bsc k.cell k.warning) c.args.line.now es gone) in
    rw (same, c.in-Err.ensures.unchanged) c.self.invariant

pub returns-in-Err-clause-unchanged : goal.returns-in-Err-clause-unchanged
returns-in-Err-clause-unchanged c =
    let k = c.args.key in
    let es = c.self.inside.lines in
    let gone : lookup (is_at (warning_slot_cmp (slot_of k.bsc k.cell k.warning))) es ≡ None = found_at k.bsc k.cell k.warning es ∙ not_entered k c.self.inside.index es c.self.invariant.none_blank c.self.invariant.indexed c.in-Err.ensures.grows in
    rw (← c.self.view_is) (c.remove.ensures.entries ∙ rw c.in_ok-insert.ensures.entries (taken_back (slot_of k.bsc k.cell k.warning) c.args.line.now es gone))

pub returns-in-Err-clause-grows : goal.returns-in-Err-clause-grows
returns-in-Err-clause-grows c =
    rw (← c.self.view_is) (ap (λ o. unwrap_or o blank_line) (not_entered c.args.key c.self.inside.index c.self.inside.lines c.self.invariant.none_blank c.self.invariant.indexed c.in-Err.ensures.grows))
