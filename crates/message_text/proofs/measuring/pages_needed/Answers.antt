use Rattle.std.proofs.Common.{◌≡◌, ℕ, List, ◌+◌, ◌-◌, ◌<◌, ◌≤◌, length, take, drop, ap, length-drop, ◌∙◌, arith, subst}
use Rattle.std.proofs.lemmas.List.{take_rest}
use Rattle.std.specs.List.{sum_by}
use Rattle.message_text.specs.Writing.{room, width}
use Rattle.message_text.proofs.CuttingLemmas.{count_some, cut_more, reach_end, reach_more}
use Rattle.message_text.proofs.measuring.pages_needed.Goals as goal

pub loop-written-smaller : goal.loop-written-smaller
loop-written-smaller c =
    let letters = c.args.letters.now in
    let w = c.loop-written.written in
    let rest = take (length letters - w) (drop w letters) in
    let n : length rest ≡ length letters - w = ap length (take_rest letters w) ∙ length-drop w letters in
    let some = count_some c.args.coding rest c.fitting-written.result (omega arith) c.fitting-written.ensures.most in
    let less : length letters - (w + c.fitting-written.result) < length letters - w = omega arith in
    less

pub loop-written-preserved : goal.loop-written-preserved
loop-written-preserved c =
    let letters = c.args.letters.now in
    let w = c.loop-written.written in
    let i = c.loop-written.invariant in
    let count = c.fitting-written.result in
    let coding = c.args.coding in
    let rest = take (length letters - w) (drop w letters) in
    let e = take_rest letters w in
    let n = ap length e ∙ length-drop w letters in
    let some = count_some coding rest count (omega arith) c.fitting-written.ensures.most in
    let fits = subst (λ (r : List ℕ). sum_by (width coding) (take count r) ≤ room coding) e c.fitting-written.ensures.fits in
    let most = subst (λ (r : List ℕ). count < length r → room coding < sum_by (width coding) (take (count + 1) r)) e c.fitting-written.ensures.most in
    record {
      place = omega (arith, n, c.fitting-written.ensures.bound);
      few = omega (arith, some, i.few);
      cut = cut_more coding letters w c.loop-written.count count i.cut fits;
      reach = reach_more coding letters c.loop-written.count w count i.reach most;
      fewest = λ pieces cut. (
          let more = reach_end coding letters c.loop-written.count w i.reach (omega arith) pieces cut in
          omega (arith, more));
    }
