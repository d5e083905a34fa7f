use Rattle.std.proofs.Common.{◌∙◌, sym, ap, Some, slice_set}
use Rattle.cell_register.specs.Register.{new_placed}
use Rattle.cell_register.proofs.PlacesLemmas.{moved_at, moved_none, place_at, place_none}
use Rattle.cell_register.proofs.by_cell.set_bsc.Goals as goal

pub returns-in_err-index-clause-old : goal.returns-in_err-index-clause-old
returns-in_err-index-clause-old c =
    c.from_residual.ensures ∙ sym (place_none c.args.c c.args.places.now.items (rw c.as_slice.ensures.value at c.in_err-index.ensures.absent))

pub returns-in_err-index-clause-set : goal.returns-in_err-index-clause-set
returns-in_err-index-clause-set c =
    sym (moved_none c.args.c c.args.b c.args.places.now.items (rw c.as_slice.ensures.value at c.in_err-index.ensures.absent))

pub returns-clause-old : goal.returns-clause-old
returns-clause-old c =
    ap (λ p. Some p.bsc) c.index_mut-place.ensures.value ∙ sym (place_at c.args.c c.args.places.now.items c.in_ok-index.index c.index_mut-place.result.now c.requires (rw c.as_slice.ensures.value at c.in_ok-index.ensures.there))

pub returns-clause-set : goal.returns-clause-set
returns-clause-set c =
    let ps = c.args.places.now.items in
    let index = c.in_ok-index.index in
    ap (λ p. slice_set ps index (new_placed p.cell c.args.b)) c.index_mut-place.ensures.value ∙ moved_at c.args.c c.args.b ps index c.index_mut-place.result.now c.requires (rw c.as_slice.ensures.value at c.in_ok-index.ensures.there)
