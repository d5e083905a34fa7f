use Rattle.std.proofs.Common.{rules}
use Rattle.std.specs.Option.{option_copied}
use Rattle.centre_lines.proofs.ReachedWarningLemmas.{all_listed, link_bears, report_bears, nothing_bears}
use Rattle.centre_lines.proofs.reached_warnings.of_event.Goals as goal
use Rattle.centre_lines.proofs.reached_warnings.of_event.Goals.{in-Retry+in_ok-numbers-in-Retry, in-Report+in_ok-numbers-in-Report, in-Send, in-LinkUp+in_ok-numbers-in-LinkUp}

pub returns : goal.returns
returns c = λ past booked flying. elim c.match-event.branch [
  | in-Retry+in_ok-numbers-in-Retry w ↦ rw (w.in-Retry.is) (all_listed past c.args.book.now c.match-event.numbers.items booked (search rules))
  | in-Report+in_ok-numbers-in-Report w ↦ report_bears past c.args.event.now c.args.answer.now (option_copied c.args.flight) w.in-Report.field-0 w.in-Report.field-1 w.in-Report.field-2 c.match-event.numbers.items w.in-Report.is flying (λ f. rw (w.numbers-is) (w.in_ok-numbers-in-Report.ensures past w.in-Report.field-0 booked f))
  | in-Send w ↦ nothing_bears past c.args.event.now c.args.answer.now (option_copied c.args.flight) c.match-event.numbers.items w.in-Send.is flying (search rules)
  | in-LinkUp+in_ok-numbers-in-LinkUp w ↦ link_bears past c.args.event.now c.args.answer.now (option_copied c.args.flight) c.match-event.numbers.items w.in-LinkUp.is flying (λ b. rw (w.numbers-is) (w.in_ok-numbers-in-LinkUp.ensures past b booked))
]
