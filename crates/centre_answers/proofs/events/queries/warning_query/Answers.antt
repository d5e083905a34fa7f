use Rattle.std.proofs.Common.{◌≡◌, inr, refl, sym, subst, rules}
use Rattle.warning_book.specs.Book.{current_of, kind_of}
use Rattle.warning_book.specs.declared.kind.Kind.TheVariants as kind
use Rattle.centre_events.specs.Asking.{query_of_kind, version_query}
use Rattle.centre_events.specs.Kept.{Gives}
use Rattle.centre_answers.proofs.events.queries.warning_query.Goals as goal

pub returns-in-Cbs-clause-verdict : goal.returns-in-Cbs-clause-verdict
returns-in-Cbs-clause-verdict c =
    let is : kind_of c.args.w.now ≡ kind.Cbs = search rules in
    λ settings past legal tables found. subst (λ k. Gives (query_of_kind k (version_query past c.args.b c.args.w.now.message_id (current_of c.args.w.now) c.args.after)) c.current_query.result) (sym is) (c.current_query.ensures.verdict settings past legal tables found)

pub returns-in-Emergency-clause-verdict : goal.returns-in-Emergency-clause-verdict
returns-in-Emergency-clause-verdict c =
    let is : kind_of c.args.w.now ≡ kind.Emergency = search rules in
    λ settings past legal tables found. inr (rw is refl)
