use Rattle.std.proofs.Common.{◌∙◌}
use Rattle.centre_past.specs.Reach.{reach_of}
use Rattle.centre_lines.proofs.SpotReachLemmas.{reached, event_once}
use Rattle.centre_lines.proofs.reach.reach_of_other.Goals as goal

pub returns : goal.returns
returns c = λ settings past told.
    reached (reach_of past c.args.h.now.event.now c.args.h.now.answer.now) c.in_ok-spots.spots.items c.in_ok-warnings.warnings.items
    (c.in_ok-spots.ensures settings past told) (c.in_ok-warnings.ensures past (c.book.ensures ∙ told.told.booked) told.flying) (event_once settings past told.told.legal c.args.h.now.event.now c.args.h.now.answer.now)
