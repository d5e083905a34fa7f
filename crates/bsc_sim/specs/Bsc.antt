-- What contracts see of a simulated BSC.
use Rattle.std.specs.Prelude.{List, [], Option}
use Rattle.common.specs.declared.cell.Cell.{Cell}
use Rattle.bsc_sim.specs.declared.key.Key.{Key}

-- its own cells, where None stands for every cell, and the keys that are on air
pub record BscState : Type 0 where
  pub own : Option (List Cell)
  pub keys : List Key

-- the same BSC with nothing on air
abbrev pub emptied : BscState → BscState
emptied b = record b { keys = [] }
