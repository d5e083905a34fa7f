use Rattle.std.proofs.Common.{◌≡◌, ◌<◌, ◌∙◌, sym, ap, arith}
use Rattle.std.specs.Prelude.{not, nat_eq}
use Rattle.mirror.proofs.DownLemmas.{none_counted}
use Rattle.mirror.specs.Downs.{class_of, count_at}
use Rattle.mirror.proofs.downs.Downs.is_down.Goals as goal

pub returns-else-count_of-ne0 : goal.returns-else-count_of-ne0
returns-else-count_of-ne0 c =
    let ps = c.self.inside.places.keys in
    let few : c.count_of.result < 255 = omega (arith, c.if-count_of-ne0.false) in
    let none : count_at (class_of c.args.c) ps ≡ 0 = grind (arith, c.count_of.ensures, c.class_of.ensures.class, few, c.self.invariant.0 c.class_of.result c.class_of.ensures.small) in
    ap (λ n. not (nat_eq n 0)) c.if-count_of-ne0.false ∙ rw (← c.self.view_is) (sym (none_counted c.args.b c.args.c ps none))
