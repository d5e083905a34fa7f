use Rattle.std.proofs.Common.{◌≡◌, ℕ, ◌+◌, ◌*◌, ◌/◌, ◌%◌, ◌^◌, ◌<◌, ◌++◌, ap, ◌∙◌, arith, subst}
use Rattle.message_text.proofs.PackingLemmas.{held_more, shifted, unpack_at, unpack_begin, unpack_done, unpack_full_at, unpack_rest}
use Rattle.message_text.proofs.septets.unpacked.Goals as goal

pub loop-octet-init : goal.loop-octet-init
loop-octet-init c = record {
  bits = omega arith;
  held = omega arith;
  whole = ap (λ o. o ++ unpack_rest c.args.octets.now 0 0) c.new-septets.ensures.items ∙ unpack_begin c.args.octets.now;
}

pub loop-octet-preserved-then-bits-lt6 : goal.loop-octet-preserved-then-bits-lt6
loop-octet-preserved-then-bits-lt6 c =
    let l = c.loop-octet in
    let low : c.from.result < 256 = omega arith in
    let a : l.held + c.from.result * 2 ^ l.bits % 65536 ≡ l.held + c.from.result * 2 ^ l.bits = ap (λ n. l.held + n) (shifted c.from.result l.bits low (omega arith)) in
    record {
      bits = omega arith;
      held = held_more l.held c.from.result l.bits _ l.invariant.held low a;
      whole = rw c.in_ok-push.ensures.items (unpack_at c.args.octets.now l.septets.items _ l.octet-index c.from.result l.held l.bits _ c.loop-octet-test.true c.from.ensures a l.invariant.whole);
    }

pub loop-octet-preserved : goal.loop-octet-preserved
loop-octet-preserved c =
    let l = c.loop-octet in
    let low : c.from.result < 256 = omega arith in
    let full : l.bits ≡ 6 = omega arith in
    let seven : l.bits + 1 ≡ 7 = omega arith in
    let a : l.held + c.from.result * 2 ^ l.bits % 65536 ≡ l.held + c.from.result * 2 ^ l.bits = ap (λ n. l.held + n) (shifted c.from.result l.bits low (omega arith)) in
    let small : (l.held + c.from.result * 2 ^ l.bits % 65536) / 128 < 128 =
    subst (λ (k : ℕ). (l.held + c.from.result * 2 ^ l.bits % 65536) / 128 < 2 ^ k) seven (held_more l.held c.from.result l.bits _ l.invariant.held low a) in
    record {
      bits = omega arith;
      held = omega arith;
      whole = rw (c.in_ok-push-2.ensures.items, c.in_ok-push.ensures.items) (unpack_full_at c.args.octets.now l.septets.items _ l.octet-index c.from.result l.held l.bits _ c.loop-octet-test.true c.from.ensures full a small l.invariant.whole);
    }

pub returns : goal.returns
returns c =
    let l = c.loop-octet in
    unpack_done c.args.octets.now l.septets.items _ l.octet-index l.held l.bits (omega arith) l.invariant.bits l.invariant.whole
