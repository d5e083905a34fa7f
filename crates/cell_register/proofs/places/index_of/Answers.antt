use Rattle.std.proofs.Common.{◌≡◌, ◌∙◌, ◌+◌, ◌∷◌, drop, sym, ap}
use Rattle.std.proofs.lemmas.List.{drop_more}
use Rattle.cell_register.proofs.IndexLemmas.{index_more}
use Rattle.cell_register.proofs.places.index_of.Goals as goal

pub loop-place-preserved : goal.loop-place-preserved
loop-place-preserved c =
    let i = c.loop-place.place-index in
    let p = c.place-item.result in
    let ps = c.args.places.now in
    let e : drop i ps ≡ p ∷ drop (i + 1) ps = drop_more ps i p c.loop-place-test.true ∙ ap (λ q. q ∷ drop (i + 1) ps) (sym c.place-item.is) in
    index_more c.loop-place.seats c.insert.new.self p (drop (i + 1) ps) ps (rw e at c.loop-place.invariant) c.in_ok-insert.ensures.inserted
