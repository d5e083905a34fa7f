use Rattle.std.proofs.Common.{◌≡◌, ℕ, List, Some, ◌+◌, ◌-◌, ◌<◌, length, take, drop, ap, length-drop, length-take-le, sym, ◌∙◌, arith, subst}
use Rattle.std.proofs.lemmas.List.{take_rest}
use Rattle.std.specs.List.{AllByRecursion, sum_by}
use Rattle.message_text.specs.Reading.{read_pages}
use Rattle.message_text.specs.Texts.{HasRoom}
use Rattle.message_text.specs.Writing.{room, width}
use Rattle.message_text.proofs.CuttingLemmas.{Reaches, count_some, read_more, reach_end, reach_more, sizes_push}
use Rattle.message_text.proofs.cutting.pages.Goals as goal

pub page_of-requires-clause-some : goal.page_of-requires-clause-some
page_of-requires-clause-some c =
    let letters = c.args.letters.now in
    let w = c.loop-written.written in
    let rest = take (length letters - w) (drop w letters) in
    let n : length rest ≡ length letters - w = ap length (take_rest letters w) ∙ length-drop w letters in
    let some = count_some c.args.coding rest c.fitting-count.result (omega arith) c.fitting-count.ensures.most in
    let k = length-take-le c.fitting-count.result rest c.fitting-count.ensures.bound in
    omega arith

pub loop-written-smaller : goal.loop-written-smaller
loop-written-smaller c =
    let letters = c.args.letters.now in
    let w = c.loop-written.written in
    let rest = take (length letters - w) (drop w letters) in
    let n : length rest ≡ length letters - w = ap length (take_rest letters w) ∙ length-drop w letters in
    let some = count_some c.args.coding rest c.fitting-count.result (omega arith) c.fitting-count.ensures.most in
    let less : length letters - (w + c.fitting-count.result) < length letters - w = omega arith in
    less

pub loop-written-preserved : goal.loop-written-preserved
loop-written-preserved c =
    let letters = c.args.letters.now in
    let w = c.loop-written.written in
    let i = c.loop-written.invariant in
    let count = c.fitting-count.result in
    let page = c.in_ok-page_of.field-0 in
    let e = take_rest letters w in
    let n = ap length e ∙ length-drop w letters in
    let most = subst (λ (r : List ℕ). count < length r → room c.args.coding < sum_by (width c.args.coding) (take (count + 1) r)) e c.fitting-count.ensures.most in
    record {
      place = omega (arith, n, c.fitting-count.ensures.bound);
      read = ap (read_pages c.args.coding) c.in_ok-push.ensures.items
          ∙ read_more c.args.coding c.loop-written.pages.items page letters w count i.read (c.in_ok-page_of.ensures.read ∙ ap (λ r. Some (take count r)) e);
      count = omega (arith, c.in_ok-push.ensures.len, i.count);
      sizes = subst (λ (p : List (List ℕ)). AllByRecursion HasRoom p) (sym c.in_ok-push.ensures.items)
          (sizes_push c.loop-written.pages.items page i.sizes c.in_ok-page_of.ensures.some c.in_ok-page_of.ensures.room);
      reach = subst (λ (k : ℕ). Reaches c.args.coding letters k (w + count)) (sym c.in_ok-push.ensures.len)
          (reach_more c.args.coding letters _ w count i.reach most);
      fewest = λ pieces cut. (
          let more = reach_end c.args.coding letters _ w i.reach (omega arith) pieces cut in
          omega (arith, c.in_ok-push.ensures.len, more));
    }
