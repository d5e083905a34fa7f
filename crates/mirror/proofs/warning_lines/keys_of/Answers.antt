use Rattle.std.proofs.Common.{◌≡◌, ◌+◌, filter, ◌∙◌, ap}
use Rattle.std.specs.BTreeMap.Range.{range_contains}
use Rattle.std.specs.List.{list_any}
use Rattle.std.specs.Map.{keys_of}
use Rattle.std.specs.declared.ops.Bound.TheVariants.{Included, Excluded}
use Rattle.common.specs.Order.{is_ascending}
use Rattle.mirror.proofs.IndexLemmas.{keys_in, own_keys, keys_between, own_have, own_ascend, ended}
use Rattle.mirror.proofs.LinesLemmas.{lines_filtered}
use Rattle.mirror.specs.Index.{key_before}
use Rattle.mirror.specs.Lines.{lines_at}
use Rattle.mirror.specs.Order.{first_of, warning_slot_cmp}
use Rattle.mirror.specs.Table.{is_key}
use Rattle.mirror.proofs.warning_lines.keys_of.Goals as goal

pub loop-slot-init : goal.loop-slot-init
loop-slot-init c =
    let es = c.args.lines.now in
    let part : c.range-slot-items.result ≡ filter (range_contains warning_slot_cmp (Included (first_of c.args.w)) (Excluded (first_of (c.args.w + 1)))) (keys_of es) = rw (c.first_of.ensures, c.end_of.ensures, c.slots-order.ensures.slots) at (c.range-slot-items.ensures.between tt) in
    let lines : lines_at c.range-slot-items.result es ≡ filter (λ e. range_contains warning_slot_cmp (Included (first_of c.args.w)) (Excluded (first_of (c.args.w + 1))) e.0) es = ap (λ ss. lines_at ss es) part ∙ lines_filtered (range_contains warning_slot_cmp (Included (first_of c.args.w)) (Excluded (first_of (c.args.w + 1)))) es c.slots-order.ensures.lines in
    rw c.new-found.ensures.items (ap (keys_in c.args.w) (ap (λ ss. lines_at ss es) c.into_iter-slot-iterator.ensures.into_iter_gives ∙ lines) ∙ keys_between c.args.w es)

pub returns-clause-which : goal.returns-clause-which
returns-clause-which c b d v =
    let all : c.loop-slot.found.items ≡ own_keys c.args.w c.args.lines.now = ended _ _ _ c.loop-slot.invariant (ap (λ ss. keys_in c.args.w (lines_at ss c.args.lines.now)) c.in-None.ensures.steps.0) in
    ap (list_any (λ k. is_key k b d v)) all ∙ own_have c.args.w c.args.lines.now b d v

pub returns-clause-order : goal.returns-clause-order
returns-clause-order c =
    let all : c.loop-slot.found.items ≡ own_keys c.args.w c.args.lines.now = ended _ _ _ c.loop-slot.invariant (ap (λ ss. keys_in c.args.w (lines_at ss c.args.lines.now)) c.in-None.ensures.steps.0) in
    ap (is_ascending key_before) all ∙ own_ascend c.args.w c.args.lines.now (rw c.slots-order.ensures.slots at c.range-slot-items.ensures.ordered)
