use Rattle.std.proofs.Common.{◌∙◌, ap}
use Rattle.common.specs.Order.{is_ascending}
use Rattle.areas.proofs.SearchLemmas.{selectors_of-place, selectors_of-none}
use Rattle.areas.specs.Selector.{selector_lt}
use Rattle.areas.proofs.coverage.Coverage.of.Goals as goal

pub invariant_of-t-7 : goal.invariant_of-t-7
invariant_of-t-7 c =
    let same = c.as_slice.ensures ∙ selectors_of-place c.args.a.now c.args.areas.now c.place_of-place.result c.index-areas-place.result c.place_of-place.ensures c.if-place-areas.true in
    record { ordered = ap (is_ascending selector_lt) same ∙ c.requires.ordered c.args.a.now; told = rw c.as_slice.ensures c.shares.ensures }

pub returns-then-place-areas : goal.returns-then-place-areas
returns-then-place-areas c =
    c.as_slice.ensures ∙ selectors_of-place c.args.a.now c.args.areas.now c.place_of-place.result c.index-areas-place.result c.place_of-place.ensures c.if-place-areas.true

pub returns-else-place-areas : goal.returns-else-place-areas
returns-else-place-areas c = selectors_of-none c.args.a.now c.args.areas.now c.place_of-place.result c.place_of-place.ensures c.if-place-areas.false
