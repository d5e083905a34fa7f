use Rattle.std.proofs.Common.{◌∙◌, ap, rules}
use Rattle.centre_past.specs.Reach.{flight_reach}
use Rattle.centre_lines.proofs.ReachedWarningLemmas.{all_listed, other_answer}
use Rattle.centre_lines.proofs.reached_warnings.of_report.Goals as goal
use Rattle.centre_lines.proofs.reached_warnings.of_report.Goals.{in-Replied+in_ok-numbers-in-Replied, in-Listed+in_ok-numbers-in-Listed, in_default}

pub returns : goal.returns
returns c = λ past b booked flying. elim c.match-answer.branch [
  | in-Replied+in_ok-numbers-in-Replied w ↦ rw (w.in-Replied.is, w.numbers-is) (w.in_ok-numbers-in-Replied.ensures past b booked ∙ ap (λ f. (flight_reach past b f).warnings) flying)
  | in-Listed+in_ok-numbers-in-Listed w ↦ rw (w.in-Listed.is) (all_listed past c.args.book.now c.match-answer.numbers.items booked (search rules))
  | in_default w ↦ rw (other_answer past b c.args.answer.now w.in_default.not-Replied w.in_default.not-Listed) (search rules)
]
