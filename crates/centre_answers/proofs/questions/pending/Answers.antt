use Rattle.std.proofs.Common.{◌≡◌, ◌∙◌, [], false, true, sym, rules}
use Rattle.centre_events.specs.Pending.{all_actions, pending}
use Rattle.centre_past.specs.LinkStates.{has_pending}
use Rattle.centre_answers.proofs.QuestionLemmas.{none_pending, pending_list, where_starved}
use Rattle.centre_answers.proofs.questions.pending.Goals as goal

pub returns-then-not-has-clause-orders : goal.returns-then-not-has-clause-orders
returns-then-not-has-clause-orders c =
    let empty : c.from_vec.result ≡ [] = search rules in
    let none : c.has.result ≡ false = search rules in
    λ settings past legal is.
    empty ∙ sym (none_pending (pending past c.args.b) (sym (c.has.ensures (all_actions past c.args.b) (pending_list settings past legal c.args.tables.now is c.args.b)) ∙ none))

pub returns-clause-orders : goal.returns-clause-orders
returns-clause-orders c = λ settings past legal is. c.groups.ensures (all_actions past c.args.b) (pending_list settings past legal c.args.tables.now is c.args.b)

pub returns-clause-memory : goal.returns-clause-memory
returns-clause-memory c =
    let some : c.has.result ≡ true = search rules in
    λ settings past legal is.
    where_starved c.groups.result (has_pending past c.args.b ≡ true) (sym (c.has.ensures (all_actions past c.args.b) (pending_list settings past legal c.args.tables.now is c.args.b)) ∙ some)
