use Rattle.std.proofs.Common.{◌≡◌, ◌+◌, Bool, filter, ◌∙◌, ap}
use Rattle.std.specs.BTreeMap.Range.{range_contains}
use Rattle.std.specs.Map.{keys_of}
use Rattle.std.specs.declared.ops.Bound.TheVariants.{Included, Excluded}
use Rattle.mirror.proofs.LinesLemmas.{lines_filtered}
use Rattle.mirror.proofs.PresentLemmas.{lines_within}
use Rattle.mirror.specs.Lines.{lines_at}
use Rattle.mirror.specs.Order.{Slot, first_of, warning_slot_cmp}
use Rattle.mirror.proofs.warning_lines.slots_of.Goals as goal

pub returns-clause-of : goal.returns-clause-of
returns-clause-of c =
    let es = c.args.lines.now in
    let test : Slot → Bool = range_contains warning_slot_cmp (Included (first_of c.args.w)) (Excluded (first_of (c.args.w + 1))) in
    let part : c.range.result ≡ filter test (keys_of es) = rw (c.first_of.ensures, c.end_of.ensures, c.slots.ensures.slots) at (c.range.ensures.between tt) in
    ap (λ ss. lines_at ss es) part ∙ lines_filtered test es c.slots.ensures.lines ∙ lines_within c.args.w es

pub returns-clause-ordered : goal.returns-clause-ordered
returns-clause-ordered c = rw c.slots.ensures.slots at c.range.ensures.ordered
