-- What holds of every register.
use Rattle.std.specs.Prelude.{◌≡◌, ◌≤◌, true, ltb, length}
use Rattle.std.specs.List.{list_all}
use Rattle.common.specs.Order.{is_ascending}
use Rattle.cell_register.specs.Register.{State, has_bsc, placed_lt}

-- BSCs and cells are in ascending order, each cell is at a registered BSC, and there are 256 BSCs and 65,536 cells at most
pub record IsRegister (r : State) : Type 0 where
  pub bscs_ascend : is_ascending ltb r.bscs ≡ true
  pub cells_ascend : is_ascending placed_lt r.cells ≡ true
  -- each cell is at a BSC that is registered
  pub placed : list_all (λ p. has_bsc r p.bsc) r.cells ≡ true
  pub few_bscs : length r.bscs ≤ 256
  pub few_cells : length r.cells ≤ 65536
