use Rattle.std.proofs.Common.{◌≡◌, inr, Some, None, refl, sym, subst, rules}
use Rattle.warning_book.specs.Book.{current_of}
use Rattle.centre_events.specs.Asking.{version_query}
use Rattle.centre_events.specs.Kept.{Gives}
use Rattle.centre_answers.proofs.events.queries.current_query.Goals as goal

pub returns-in-Some-clause-verdict : goal.returns-in-Some-clause-verdict
returns-in-Some-clause-verdict c =
    let current : current_of c.args.w.now ≡ Some c.in-Some.serial = search rules in
    λ settings past legal tables found. subst (λ o. Gives (version_query past c.args.b c.args.w.now.message_id o c.args.after) c.version_query.result) (sym current) (c.version_query.ensures.verdict settings past legal tables found current)

pub returns-in-None-clause-verdict : goal.returns-in-None-clause-verdict
returns-in-None-clause-verdict c =
    let current : current_of c.args.w.now ≡ None = search rules in
    λ settings past legal tables found. inr (rw current refl)
