use Rattle.std.proofs.Common.{◌≡◌, ◌<◌, true, false, length, get_or, ◌∙◌, sym, arith}
use Rattle.std.proofs.lemmas.Grind.{get_or_default_zero}
use Rattle.std.specs.BTreeMap.{is_at}
use Rattle.std.specs.List.{list_any}
use Rattle.std.specs.Set.{remove_key}
use Rattle.mirror.proofs.DownLemmas.{all_stay, counts_less, counts_there}
use Rattle.mirror.proofs.KeptLemmas.{down_place, downs_set}
use Rattle.mirror.specs.Order.{place_cmp, place_of}
use Rattle.mirror.proofs.downs.Downs.remove.Goals as goal

pub invariant_of-self : goal.invariant_of-self
invariant_of-self c =
    let counts = c.self.inside.counts.items in
    let ps = c.self.inside.places.keys in
    let taken : c.remove.new.self.keys ≡ remove_key (is_at (place_cmp (place_of c.args.b c.args.c))) ps = rw c.of.ensures.place at c.remove.ensures.keys in
    let there : list_any (is_at (place_cmp (place_of c.args.b c.args.c))) ps ≡ true = sym (rw c.of.ensures.place at c.remove.ensures.test) ∙ c.if-remove.true in
    let inside : c.class_of-class.result < length counts = counts_there c.args.b c.args.c counts ps c.class_of-class.result c.class_of-class.ensures.class c.class_of-class.ensures.small c.self.invariant.0 c.self.invariant.1 (sym (down_place c.args.b c.args.c ps) ∙ there) in
    let read : c.index.result.now ≡ get_or counts c.class_of-class.result 0 = c.index.ensures ∙ get_or_default_zero counts c.class_of-class.result c.index.result.now inside in
    (counts_less c.args.b c.args.c counts ps c.remove.new.self.keys c.class_of-class.result c.one_less.result c.class_of-class.ensures.class inside c.class_of-class.ensures.small c.self.invariant.0 (rw read at c.one_less.ensures) taken there, all_stay counts c.class_of-class.result c.one_less.result c.self.invariant.1)

pub invariant_of-self-else-class-len : goal.invariant_of-self-else-class-len
invariant_of-self-else-class-len c =
    let counts = c.self.inside.counts.items in
    let ps = c.self.inside.places.keys in
    let there : list_any (is_at (place_cmp (place_of c.args.b c.args.c))) ps ≡ true = sym (rw c.of.ensures.place at c.remove.ensures.test) ∙ c.if-remove.true in
    let inside : c.class_of-class.result < length counts = counts_there c.args.b c.args.c counts ps c.class_of-class.result c.class_of-class.ensures.class c.class_of-class.ensures.small c.self.invariant.0 c.self.invariant.1 (sym (down_place c.args.b c.args.c ps) ∙ there) in
    absurd (grind (arith, inside, c.if-class-len.false, c.len.ensures))

pub returns-then-class-len : goal.returns-then-class-len
returns-then-class-len c =
    rw (← c.self.view_is) (downs_set c.args.b c.args.c false c.self.inside.places.keys c.remove.new.self.keys (rw c.of.ensures.place at c.remove.ensures.updates.0))

pub returns-else-class-len : goal.returns-else-class-len
returns-else-class-len c =
    rw (← c.self.view_is) (downs_set c.args.b c.args.c false c.self.inside.places.keys c.remove.new.self.keys (rw c.of.ensures.place at c.remove.ensures.updates.0))
