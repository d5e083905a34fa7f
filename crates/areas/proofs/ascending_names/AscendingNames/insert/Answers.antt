use Rattle.std.proofs.Common.{◌∙◌, ◌∷◌, ◌++◌, ap, take, drop}
use Rattle.common.specs.Order.{is_ascending}
use Rattle.areas.proofs.AscendingLemmas.{ascending_at, has_already, has_at}
use Rattle.areas.specs.Holders.{has_name}
use Rattle.areas.specs.Name.{octets_lt}
use Rattle.areas.proofs.ascending_names.AscendingNames.insert.Goals as goal

pub returns-then-stands_at-clause-inserted : goal.returns-then-stands_at-clause-inserted
returns-then-stands_at-clause-inserted c b =
    has_already c.args.a.now b c.args.self.now (rw (c.as_slice-names.ensures.value, c.self.view_is) at (c.stands_at.ensures.there c.if-stands_at.true))

pub invariant_of-self-2 : goal.invariant_of-self-2
invariant_of-self-2 c =
    let names = c.self.inside.names.items in
    let place = c.start_of-place.result in
    let start = rw c.as_slice-names.ensures.value at c.start_of-place.ensures.point in
    let bound = rw c.as_slice-names.ensures.value at c.start_of-place.ensures.bound in
    let other = rw c.as_slice-names.ensures.value at (c.stands_at.ensures.other c.if-stands_at.false) in
    ap (is_ascending octets_lt) (c.in_ok-insert.ensures.items ∙ ap (λ n. take place names ++ n ∷ drop place names) c.in_ok-name.ensures)
    ∙ ascending_at c.args.a.now names place c.args.a.now c.self.invariant bound start (other c.args.a.now)

pub returns-clause-inserted : goal.returns-clause-inserted
returns-clause-inserted c b =
    let names = c.self.inside.names.items in
    let place = c.start_of-place.result in
    let start = rw c.as_slice-names.ensures.value at c.start_of-place.ensures.point in
    let bound = rw c.as_slice-names.ensures.value at c.start_of-place.ensures.bound in
    rw (← c.self.view_is) (ap (has_name b) (c.in_ok-insert.ensures.items ∙ ap (λ n. take place names ++ n ∷ drop place names) c.in_ok-name.ensures) ∙ has_at c.args.a.now names place b bound start)
