use Rattle.std.proofs.Common.{◌≡◌, Bool, filter, ◌∙◌, ap, rules}
use Rattle.std.specs.BTreeMap.Range.{range_contains}
use Rattle.std.specs.Map.{keys_of}
use Rattle.std.specs.declared.ops.Bound.TheVariants.{Unbounded}
use Rattle.mirror.proofs.LinesLemmas.{lines_filtered}
use Rattle.mirror.proofs.OnAirLemmas.{first_slot, lines_later}
use Rattle.mirror.specs.Lines.{lines_at}
use Rattle.mirror.specs.OnAir.{lines_for}
use Rattle.mirror.specs.Order.{Slot, warning_slot_cmp}
use Rattle.mirror.proofs.warning_lines.later.Goals as goal
use Rattle.mirror.proofs.warning_lines.later.Goals.{in-Some, in-None}

pub returns-clause-of : goal.returns-clause-of
returns-clause-of c =
    let begins : c.match-after.first ≡ first_slot c.args.b c.args.w c.args.after = elim c.match-after.branch [ in-Some w ↦ search rules | in-None w ↦ search rules ] in
    let es = c.args.lines.now in
    let test : Slot → Bool = range_contains warning_slot_cmp (first_slot c.args.b c.args.w c.args.after) Unbounded in
    let part : c.range.result ≡ filter test (keys_of es) = rw (begins, c.slots.ensures.slots) at (c.range.ensures.between tt) in
    let lines : lines_at c.range.result es ≡ filter (λ e. test e.0) es = ap (λ ss. lines_at ss es) part ∙ lines_filtered test es c.slots.ensures.lines in
    ap (lines_for c.args.b c.args.w) lines ∙ lines_later c.args.b c.args.w c.args.after es (rw c.slots.ensures.slots at c.range.ensures.ordered)

pub returns-clause-ordered : goal.returns-clause-ordered
returns-clause-ordered c = rw c.slots.ensures.slots at c.range.ensures.ordered
