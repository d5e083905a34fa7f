use Rattle.std.proofs.Common.{◌≡◌, ◌∙◌, length, arith}
use Rattle.areas.proofs.OrderLemmas.{first_ends}
use Rattle.areas.proofs.naming.is_before.Goals as goal

pub returns : goal.returns
returns c =
    let first = c.as_slice-first.result.now in
    let second = c.as_slice-second.result.now in
    let all : length first ≡ c.loop-place.place = omega arith in
    rw (← c.as_slice-first.ensures, ← c.as_slice-second.ensures) (first_ends first second c.loop-place.place all ∙ c.loop-place.invariant)
