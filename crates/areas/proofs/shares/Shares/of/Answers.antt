use Rattle.std.proofs.Common.{◌≡◌, ◌<◌, ◌∙◌, [], refl, cond, length, take, get_or, sym, ap, arith}
use Rattle.std.proofs.lemmas.List.{take_more, length-take-le}
use Rattle.areas.proofs.ShareLemmas.{alike_tells, from_start, tells_more}
use Rattle.areas.specs.Shares.{are_together, is_whole, share_of, with_selector}
use Rattle.areas.specs.Selector.{lac_of}
use Rattle.areas.specs.declared.selector.Selector.{Selector}
use Rattle.areas.specs.declared.selector.Selector.TheVariants as selector
use Rattle.areas.specs.declared.share.Share.TheVariants.{Nothing, From}
use Rattle.areas.proofs.shares.Shares.of.Goals as goal

pub returns-then-selectors-gt-MOST : goal.returns-then-selectors-gt-MOST
returns-then-selectors-gt-MOST c = rw c.alike.ensures (alike_tells c.args.selectors.now c.first_lac-first.result c.shift_for-shift.result (From 0) (from_start c.args.selectors.now))

pub loop-place-init : goal.loop-place-init
loop-place-init c = rw c.alike-shares.ensures (alike_tells [] c.first_lac-first.result c.shift_for-shift.result Nothing (λ l. refl))

pub loop-place-preserved : goal.loop-place-preserved
loop-place-preserved c =
    let xs = c.args.selectors.now in
    let place = c.loop-place.place in
    let none : Selector = selector.Cell (record { lac = 0; ci = 0 }) in
    let s = get_or xs place none in
    let within : place < length xs = omega arith in
    let long : length (take place xs) ≡ place = length-take-le place xs (omega arith) in
    rw (take_more xs place none within) (tells_more (take place xs) s c.loop-place.shares c.add.new.self (λ l. c.add.ensures l ∙ ap (λ n. cond (are_together c.loop-place.shares (lac_of s) l) (with_selector (is_whole c.loop-place.shares s) (share_of c.loop-place.shares l) n) (share_of c.loop-place.shares l)) (sym long)) c.loop-place.invariant)
