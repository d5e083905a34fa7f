use Rattle.std.proofs.Common.{◌∙◌, sym, ap, Some}
use Rattle.common.specs.Cell.{cell_eq}
use Rattle.common.specs.OnceLaws.{kept_whole}
use Rattle.cell_register.proofs.PlacesLemmas.{place_at, place_none, without_at}
use Rattle.cell_register.proofs.by_cell.remove.Goals as goal

pub returns-in_err-index-clause-old : goal.returns-in_err-index-clause-old
returns-in_err-index-clause-old c =
    c.from_residual.ensures ∙ sym (place_none c.args.c c.args.places.now.items (rw c.as_slice.ensures.value at c.in_err-index.ensures.absent))

pub returns-in_err-index-clause-removed : goal.returns-in_err-index-clause-removed
returns-in_err-index-clause-removed c =
    sym (kept_whole (λ p. cell_eq p.cell c.args.c) c.args.places.now.items (rw c.as_slice.ensures.value at c.in_err-index.ensures.absent))

pub returns-clause-old : goal.returns-clause-old
returns-clause-old c =
    ap (λ p. Some p.bsc) c.remove-place.ensures.value ∙ sym (place_at c.args.c c.args.places.now.items c.in_ok-index.index c.remove-place.result c.requires (rw c.as_slice.ensures.value at c.in_ok-index.ensures.there))

pub returns-clause-removed : goal.returns-clause-removed
returns-clause-removed c =
    c.remove-place.ensures.items ∙ without_at c.args.c c.args.places.now.items c.in_ok-index.index c.remove-place.result c.requires (rw c.as_slice.ensures.value at c.in_ok-index.ensures.there)
