use Rattle.framing.proofs.StreamLemmas.{EndsTooLong-again}
use Rattle.framing.proofs.framer.Framer.feed.Goals as goal

-- a frame before this piece was too long
pub returns-in-Some-clause-refused : goal.returns-in-Some-clause-refused
returns-in-Some-clause-refused c =
    let told = rw c.deref.ensures.value at c.in-Some.ensures.some in
    rw (← c.self.view_is) (EndsTooLong-again _ c.args.piece.now c.in-Some.length told.0 (c.self.invariant told.0) told.1)
