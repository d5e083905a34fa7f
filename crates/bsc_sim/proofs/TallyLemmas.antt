-- What comes of cells in turn.
use Rattle.std.proofs.Common.{◌≡◌, ℕ, ◌+◌, ◌<◌, List, Option, length, drop, get_or, ap, add-one, drop-cons}
use Rattle.common.specs.declared.cell.Cell.{Cell}
use Rattle.bsc_sim.specs.declared.request.Request.{Request}
use Rattle.bsc_sim.specs.Answering.{TallyState, cause_in, stepped, tally_from}
use Rattle.bsc_sim.specs.Choices.{Chosen}

-- the next cell, and those after it
pub tally_next : (own : Option (List Cell)) (chosen : Chosen) (r : Request) (t : TallyState) (cells : List Cell) (i : ℕ) (d : Cell) → i < length cells
    → tally_from own chosen r t (drop i cells) ≡ tally_from own chosen r (stepped r t (get_or cells i d) (cause_in own chosen r t.keys (get_or cells i d))) (drop (i + 1) cells)
tally_next own chosen r t cells i d lt = rw add-one (ap (tally_from own chosen r t) (drop-cons cells i d lt))
