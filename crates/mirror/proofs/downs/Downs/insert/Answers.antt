use Rattle.std.proofs.Common.{◌≡◌, ◌<◌, inr, true, false, length, get_or, ◌∙◌, sym, subst, arith}
use Rattle.std.proofs.lemmas.Bool.{not-true}
use Rattle.cbsp_ie.proofs.ListLemmas.{on_err}
use Rattle.std.proofs.lemmas.Grind.{get_or_default_zero}
use Rattle.std.specs.BTreeMap.{is_at}
use Rattle.std.specs.BTreeSet.{insert_key}
use Rattle.std.specs.List.{list_any}
use Rattle.mirror.proofs.DownLemmas.{all_stay, counts_more, counts_same, none_there}
use Rattle.mirror.proofs.KeptLemmas.{downs_set}
use Rattle.mirror.specs.Downs.{AreCounts}
use Rattle.mirror.specs.Order.{place_cmp, place_of}
use Rattle.mirror.proofs.downs.Downs.insert.Goals as goal

pub returns-in_err-make_counts-clause-grows : goal.returns-in_err-make_counts-clause-grows
returns-in_err-make_counts-clause-grows c =
    let ps = c.self.inside.places.keys in
    let are : AreCounts c.make_counts.new.counts.items ps = counts_same c.self.inside.counts.items c.make_counts.new.counts.items ps c.make_counts.ensures.same c.self.invariant.0 in
    on_err c.from_residual.result (rw (← c.self.view_is) (none_there c.args.b c.args.c ps (subst (λ xs. AreCounts xs ps) c.in_err-make_counts.ensures.none are)))

pub invariant_of-self-then-branch : goal.invariant_of-self-then-branch
invariant_of-self-then-branch c =
    let ps = c.self.inside.places.keys in
    let counts = c.make_counts.new.counts.items in
    let are : AreCounts counts ps = counts_same c.self.inside.counts.items counts ps c.make_counts.ensures.same c.self.invariant.0 in
    let put : c.insert.new.self.keys ≡ insert_key place_cmp ps (place_of c.args.b c.args.c) = rw c.of.ensures.place at c.in_ok-insert.ensures.keys in
    let absent : list_any (is_at (place_cmp (place_of c.args.b c.args.c))) ps ≡ false = not-true _ (sym (rw c.of.ensures.place at c.in_ok-insert.ensures.added) ∙ c.if-branch.true) in
    let inside : c.class_of-class.result < length counts = omega (arith, c.class_of-class.ensures.small, c.in_ok-make_counts.ensures.made) in
    let read : c.index.result.now ≡ get_or counts c.class_of-class.result 0 = c.index.ensures ∙ get_or_default_zero counts c.class_of-class.result c.index.result.now inside in
    (counts_more c.args.b c.args.c counts ps c.insert.new.self.keys c.class_of-class.result c.one_more.result c.class_of-class.ensures.class inside c.class_of-class.ensures.small are (rw read at c.one_more.ensures) put absent, all_stay counts c.class_of-class.result c.one_more.result (inr c.in_ok-make_counts.ensures.made))

pub returns-then-branch-clause-set : goal.returns-then-branch-clause-set
returns-then-branch-clause-set c =
    rw (← c.self.view_is) (downs_set c.args.b c.args.c true c.self.inside.places.keys c.insert.new.self.keys (rw c.of.ensures.place at c.in_ok-insert.ensures.updates.0))
