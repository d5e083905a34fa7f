use Rattle.std.proofs.Common.{◌≡◌, ◌+◌, ◌*◌, ◌%◌, ◌^◌, ◌<◌, ◌++◌, ap, ◌∙◌, arith}
use Rattle.message_text.proofs.ListLemmas.{rest_all}
use Rattle.message_text.proofs.PackingLemmas.{held_first, held_pushed, pack_begin, pack_done_last, pack_done_none, pack_hold_at, pack_push_at, pack_rest, shifted}
use Rattle.message_text.proofs.septets.packed.Goals as goal

pub loop-septet-init : goal.loop-septet-init
loop-septet-init c = record {
  bits = omega arith;
  held = omega arith;
  low = c.requires;
  whole = ap (λ o. o ++ pack_rest c.args.septets.now 0 0) c.new-octets.ensures.items ∙ pack_begin c.args.septets.now;
}

pub loop-septet-preserved-then-bits-eq0 : goal.loop-septet-preserved-then-bits-eq0
loop-septet-preserved-then-bits-eq0 c =
    let l = c.loop-septet in
    let r = rest_all (λ septet. septet < 128) c.args.septets.now l.septet-index 0 c.from.result c.loop-septet-test.true c.from.ensures l.invariant.low in
    let low : c.from.result < 128 = r.0 in
    let a : l.held + c.from.result * 2 ^ l.bits % 65536 ≡ l.held + c.from.result * 2 ^ l.bits = ap (λ n. l.held + n) (shifted c.from.result l.bits (omega arith) l.invariant.bits) in
    record {
      bits = omega arith;
      held = held_first l.held c.from.result l.bits _ l.invariant.held low c.if-bits-eq0.true a;
      low = r.1;
      whole = pack_hold_at c.args.septets.now l.octets.items _ l.septet-index c.from.result l.held l.bits _ c.loop-septet-test.true c.from.ensures c.if-bits-eq0.true a l.invariant.whole;
    }

pub loop-septet-preserved : goal.loop-septet-preserved
loop-septet-preserved c =
    let l = c.loop-septet in
    let r = rest_all (λ septet. septet < 128) c.args.septets.now l.septet-index 0 c.from.result c.loop-septet-test.true c.from.ensures l.invariant.low in
    let low : c.from.result < 128 = r.0 in
    let some : 0 < l.bits = omega arith in
    let a : l.held + c.from.result * 2 ^ l.bits % 65536 ≡ l.held + c.from.result * 2 ^ l.bits = ap (λ n. l.held + n) (shifted c.from.result l.bits (omega arith) l.invariant.bits) in
    record {
      bits = omega arith;
      held = held_pushed l.held c.from.result l.bits _ l.invariant.held low some a;
      low = r.1;
      whole = rw c.in_ok-push.ensures.items (pack_push_at c.args.septets.now l.octets.items _ l.septet-index c.from.result l.held l.bits _ c.loop-septet-test.true c.from.ensures some a l.invariant.whole);
    }

pub returns-then-bits-eq0-2 : goal.returns-then-bits-eq0-2
returns-then-bits-eq0-2 c =
    let l = c.loop-septet in
    pack_done_none c.args.septets.now l.octets.items _ l.septet-index l.held l.bits (omega arith) c.if-bits-eq0-2.true l.invariant.whole

pub returns : goal.returns
returns c =
    let l = c.loop-septet in
    c.in_ok-push-2.ensures.items
    ∙ pack_done_last c.args.septets.now l.octets.items _ l.septet-index l.held l.bits (omega arith) (omega arith) l.invariant.bits l.invariant.held l.invariant.whole
