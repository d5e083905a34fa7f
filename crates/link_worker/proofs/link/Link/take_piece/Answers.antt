use Rattle.link_worker.proofs.ReportLemmas.{Stops-starved, Stops-within, fed_parts}
use Rattle.link_worker.proofs.link.Link.take_piece.Goals as goal

pub returns-in-Err-clause-ended : goal.returns-in-Err-clause-ended
returns-in-Err-clause-ended g c =
    Stops-within _ _ _ _ _ _ _ _ (fed_parts c.feed-fed.result c.args.framer.now c.feed-fed.new.self c.args.piece.now c.requires c.feed-fed.ensures.taken c.feed-fed.ensures.refused) c.in-Err.ensures.ended

pub returns-in-Err-Memory-clause-ended : goal.returns-in-Err-Memory-clause-ended
returns-in-Err-Memory-clause-ended g c =
    Stops-starved _ _ _ _ _ _ _ (fed_parts c.feed-fed.result c.args.framer.now c.feed-fed.new.self c.args.piece.now c.requires c.feed-fed.ensures.taken c.feed-fed.ensures.refused) c.in_default.ensures.taken
