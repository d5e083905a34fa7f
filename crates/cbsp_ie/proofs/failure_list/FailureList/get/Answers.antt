use Rattle.std.proofs.Common.{◌≡◌, [], drop, eqb-true, sym, ◌∙◌, arith}
use Rattle.std.proofs.lemmas.Option.{slice_get_past}
use Rattle.cbsp_ie.proofs.FailureListLemmas.{is_read, next_failure, none_left}
use Rattle.cbsp_ie.proofs.ListLemmas.{drop_one_more, length_from_drop, slice_get-drop}
use Rattle.cbsp_ie.proofs.failure_list.FailureList.get.Goals as goal

pub loop-rest-init : goal.loop-rest-init
loop-rest-init c = record { left = rw (← c.self.view_is) c.self.invariant.1; before = omega arith }

pub unwrap-used-requires : goal.unwrap-used-requires
unwrap-used-requires c = is_read c.read_failure.result c.loop-rest.rest.now (drop c.loop-rest.at c.args.self.now) c.loop-rest.invariant.left c.read_failure.ensures.fault

pub returns-then-at-index : goal.returns-then-at-index
returns-then-at-index c =
    let n = next_failure _ _ _ _ c.loop-rest.invariant.left (rw c.unwrap-used.ensures at c.read_failure.ensures.found) in
    rw (← c.if-at-index.true) (sym (slice_get-drop c.args.self.now c.loop-rest.at c.unwrap-used.result.0 n.more n.is))

pub loop-rest-preserved : goal.loop-rest-preserved
loop-rest-preserved c =
    let n = next_failure _ _ _ _ c.loop-rest.invariant.left (rw c.unwrap-used.ensures at c.read_failure.ensures.found) in
    record {
      left = rw (c.split_at.ensures.back, drop_one_more c.args.self.now c.loop-rest.at c.unwrap-used.result.0 n.more n.is) n.good;
      before = omega (arith, c.if-at-index.false, c.loop-rest.invariant.before);
    }

pub returns : goal.returns
returns c =
    let none : drop c.loop-rest.at c.args.self.now ≡ [] =
    none_left c.loop-rest.rest.now (drop c.loop-rest.at c.args.self.now) c.loop-rest.invariant.left (eqb-true _ _ (sym c.is_empty.ensures ∙ c.loop-rest-test.false)) in
    let past = length_from_drop c.args.self.now c.loop-rest.at none in
    sym (slice_get_past c.args.self.now c.args.index (omega (arith, past, c.loop-rest.invariant.before)))
