use Rattle.std.proofs.Common.{refl}
use Rattle.order_maker.specs.Grouping.{most_cells}
use Rattle.order_maker.proofs.order_map.most_cells.Goals as goal

pub returns : goal.returns
unfolding most_cells
returns c = refl
