-- The tests of two cells at BSCs, and of two lines, are true where they are one, and nowhere else.
use Rattle.std.proofs.Common.{◌&&◌, nat_eq}
use Rattle.std.specs.Cmp.{unsigned_Decides}
use Rattle.common.specs.Cell.{cell_eq}
use Rattle.common.specs.Equality.{both, amounts, cell_decides}
use Rattle.common.specs.OnceLaws.{DecidesAll}
use Rattle.kept_tables.specs.View.{key_eq, spot_eq}

-- of two cells at BSCs
pub spot_decides : DecidesAll spot_eq
spot_decides x y =
    amounts (both (nat_eq x.bsc y.bsc) (cell_eq x.cell y.cell) (unsigned_Decides x.bsc y.bsc) (cell_decides x.cell y.cell))
    (λ e. λ i. record { bsc = e.0 i; cell = e.1 i }) (λ e. (λ i. (e i).bsc, λ i. (e i).cell))

-- of two lines
pub key_decides : DecidesAll key_eq
key_decides x y =
    amounts (both (nat_eq x.bsc y.bsc) (cell_eq x.cell y.cell && nat_eq x.warning y.warning) (unsigned_Decides x.bsc y.bsc) (both (cell_eq x.cell y.cell) (nat_eq x.warning y.warning) (cell_decides x.cell y.cell) (unsigned_Decides x.warning y.warning)))
    (λ e. λ i. record { bsc = e.0 i; cell = e.1.0 i; warning = e.1.1 i }) (λ e. (λ i. (e i).bsc, (λ i. (e i).cell, λ i. (e i).warning)))
