use Rattle.std.proofs.Common.{◌+◌, ◌&&◌, not, drop, get_or}
use Rattle.std.specs.Prelude.{bytes_eq}
use Rattle.std.proofs.lemmas.List.{drop_more}
use Rattle.areas.proofs.HolderLemmas.{selectors_next}
use Rattle.areas.specs.Areas.{is_among}
use Rattle.areas.specs.Holders.{holds}
use Rattle.areas.specs.declared.selector.Selector.{Selector}
use Rattle.areas.specs.declared.selector.Selector.TheVariants as selector
use Rattle.areas.proofs.holders.Holders.remove_all.Goals as goal

pub loop-s-preserved : goal.loop-s-preserved
loop-s-preserved c =
    let none : Selector = selector.Cell (record { lac = 0; ci = 0 }) in
    let all = c.args.selectors.now in
    let came = drop_more all c.loop-s.s-index none c.loop-s-test.true in
    selectors_next (get_or all c.loop-s.s-index none) c.args.a.now (drop (c.loop-s.s-index + 1) all) c.loop-s.self c.remove.new.self (λ t b. not (is_among t all && bytes_eq c.args.a.now b) && holds c.args.self.now t b) c.remove.ensures (λ t b. rw came at (c.loop-s.invariant t b))
