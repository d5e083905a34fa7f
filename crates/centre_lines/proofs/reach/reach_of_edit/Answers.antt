use Rattle.std.proofs.Common.{◌∙◌}
use Rattle.centre_past.specs.Reach.{edit_reach}
use Rattle.centre_lines.proofs.SpotReachLemmas.{reached, edit_once}
use Rattle.centre_lines.proofs.reach.reach_of_edit.Goals as goal

pub returns : goal.returns
returns c = λ settings past told.
    reached (edit_reach past c.args.edit.now) c.in_ok-spots.spots.items c.in_ok-warnings.warnings.items
    (c.in_ok-spots.ensures settings past told) (c.in_ok-warnings.ensures past told.answer (c.book.ensures ∙ told.told.booked) told.accepted) (edit_once settings past told.told.legal c.args.edit.now)
