use Rattle.std.proofs.Common.{rules}
use Rattle.centre_lines.proofs.ReachedWarningLemmas.{none_bear, all_bear, naming_bear, one_bears, next_bears}
use Rattle.centre_lines.proofs.reached_warnings.of_edit.Goals as goal
use Rattle.centre_lines.proofs.reached_warnings.of_edit.Goals.{in-Issue+in_ok-numbers-in-Issue, in-AddBsc, in-RemoveBsc+in_ok-numbers-in-RemoveBsc, in-Update+in_ok-numbers-in-Update, in-Put+in_ok-numbers-in-Put}

pub returns : goal.returns
returns c = λ past a booked accepted. elim c.match-edit.branch [
  | in-Issue+in_ok-numbers-in-Issue w ↦ next_bears past c.args.book.now c.args.edit.now w.in-Issue.field-0 w.in-Issue.field-1 a w.next_number.result c.match-edit.numbers.items w.in-Issue.is booked accepted w.next_number.ensures (search rules)
  | in-AddBsc w ↦ none_bear past c.args.edit.now c.match-edit.numbers.items w.in-AddBsc.is (search rules)
  | in-RemoveBsc+in_ok-numbers-in-RemoveBsc w ↦ all_bear past c.args.book.now c.args.edit.now c.match-edit.numbers.items w.in-RemoveBsc.is booked (search rules)
  | in-Update+in_ok-numbers-in-Update w ↦ one_bears past c.args.edit.now w.in-Update.n c.match-edit.numbers.items w.in-Update.is (search rules)
  | in-Put+in_ok-numbers-in-Put w ↦ naming_bear past c.args.book.now c.args.edit.now w.in-Put.a c.match-edit.numbers.items w.in-Put.is booked (search rules)
]
