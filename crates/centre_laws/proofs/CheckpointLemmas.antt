-- What is known after a checkpoint says the same as what was known before it.
use Rattle.std.proofs.Common.{◌≡◌, sym}
use Rattle.centre_events.specs.Folding.{base_of}
use Rattle.centre_events.proofs.FoldingLemmas.{past_whole}
use Rattle.centre_past.specs.Alike.{SaysTheSame}
use Rattle.centre_past.specs.Legal.{Known, checkpointed, past}
use Rattle.centre_past.proofs.AlikeLemmas.{says_the_same}

pub checkpoint_base : (centre : Known) → base_of (past (checkpointed centre)) ≡ base_of (past centre)
checkpoint_base centre = sym (past_whole centre.folded centre.journal)

pub checkpoint_same : (centre : Known) → SaysTheSame (past (checkpointed centre)) (past centre)
checkpoint_same centre = says_the_same (past (checkpointed centre)) (past centre) (checkpoint_base centre)
