use Rattle.std.proofs.Common.{◌∙◌, sym}
use Rattle.cell_register.proofs.PlacesLemmas.{place_at, place_none}
use Rattle.cell_register.proofs.by_cell.bsc_near.Goals as goal

pub returns-in_err-index : goal.returns-in_err-index
returns-in_err-index c =
    c.from_residual.ensures ∙ sym (place_none c.args.c c.args.places.now c.in_err-index.ensures.absent)

pub returns : goal.returns
returns c = sym (place_at c.args.c c.args.places.now c.in_ok-index.index c.index-places-index.result c.requires c.in_ok-index.ensures.there)
