use Rattle.std.proofs.Common.{rules}
use Rattle.std.specs.Option.{option_copied}
use Rattle.centre_lines.proofs.SpotReachLemmas.{known_reached, link_reached, report_reached, nothing_reached}
use Rattle.centre_lines.proofs.reach.event_spots.Goals as goal
use Rattle.centre_lines.proofs.reach.event_spots.Goals.{in-Retry+in_ok-spots-in-Retry, in-Report+in_ok-spots-in-Report, in-Send, in-LinkUp+in_ok-spots-in-LinkUp}

pub returns : goal.returns
returns c = λ settings past told. elim c.match-event.branch [
  | in-Retry+in_ok-spots-in-Retry w ↦ rw (w.in-Retry.is) (known_reached settings past c.args.plan.now.register c.args.plan.now.book c.args.tables.now w.in-Retry.b c.match-event.spots.items told.told c.tell_lines.ensures (search rules))
  | in-Report+in_ok-spots-in-Report w ↦ report_reached settings past c.args.event.now c.args.answer.now (option_copied c.args.flight) w.in-Report.b w.in-Report.field-1 w.in-Report.field-2 c.match-event.spots.items w.in-Report.is told.told.legal told.flying told.accepted (λ f. rw (w.spots-is) (w.in_ok-spots-in-Report.ensures past f))
  | in-Send w ↦ nothing_reached past c.args.event.now c.args.answer.now (option_copied c.args.flight) c.match-event.spots.items w.in-Send.is told.flying (search rules)
  | in-LinkUp+in_ok-spots-in-LinkUp w ↦ link_reached settings past c.args.event.now c.args.answer.now (option_copied c.args.flight) w.in-LinkUp.b c.match-event.spots.items w.in-LinkUp.is told.told.legal told.flying (rw (w.spots-is) (w.in_ok-spots-in-LinkUp.ensures past))
]
