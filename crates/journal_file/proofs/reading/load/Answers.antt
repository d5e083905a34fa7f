use Rattle.std.proofs.Common.{sym, subst}
use Rattle.std.proofs.lemmas.Result.{err_from_is_err_and, IfOk-weaker, IfErr-weaker}
use Rattle.journal_file.specs.Loading.{LoadingState}
use Rattle.journal_file.specs.Loads.{Loads, BreaksOff}
use Rattle.journal_file.specs.Reading.{ReadsOn, Finds, FindsNone}
use Rattle.journal_file.proofs.ReadingLemmas.{ReadsOn-start, Loads-end, BreaksOff-end}
use Rattle.journal_file.proofs.reading.load.Goals as goal

-- a line isn't taken, or a read fails
pub returns-in_err-load_all-clause-err : goal.returns-in_err-load_all-clause-err
returns-in_err-load_all-clause-err g c =
    let p = err_from_is_err_and c.from_residual-in_err-load_all.result c.from_residual-in_err-load_all.ensures.1 in
    let given = g.S.Source.remaining c.args.source.now in
    let taken = g.T.TakeLine.taken c.args.taker.now in
    let start = subst (λ (s : LoadingState). ReadsOn c.args.heading given given s taken taken) (sym c.new-loading.ensures) (ReadsOn-start c.args.heading given taken) in
    rw (p.1, p.2) (c.in_err-load_all.ensures.err given taken start)

-- all was read
pub returns-clause-ok : goal.returns-clause-ok
returns-clause-ok g c =
    let given = g.S.Source.remaining c.args.source.now in
    let left = g.S.Source.remaining c.load_all.new.source in
    let taken = g.T.TakeLine.taken c.args.taker.now in
    let after = g.T.TakeLine.taken c.load_all.new.taker in
    let now = c.load_all.new.loading in
    let start = subst (λ (s : LoadingState). ReadsOn c.args.heading given given s taken taken) (sym c.new-loading.ensures) (ReadsOn-start c.args.heading given taken) in
    let reads = c.in_ok-load_all.ensures.ok given taken start in
    IfOk-weaker c.found.result (Finds c.args.heading now) (Loads c.args.heading given left taken after)
    (λ loaded finds. Loads-end c.args.heading given left taken after now reads loaded c.in_ok-load_all.ensures.end finds) c.found.ensures.ok

-- and is no journal
pub returns-clause-err : goal.returns-clause-err
returns-clause-err g c =
    let given = g.S.Source.remaining c.args.source.now in
    let left = g.S.Source.remaining c.load_all.new.source in
    let taken = g.T.TakeLine.taken c.args.taker.now in
    let after = g.T.TakeLine.taken c.load_all.new.taker in
    let now = c.load_all.new.loading in
    let start = subst (λ (s : LoadingState). ReadsOn c.args.heading given given s taken taken) (sym c.new-loading.ensures) (ReadsOn-start c.args.heading given taken) in
    let reads = c.in_ok-load_all.ensures.ok given taken start in
    IfErr-weaker c.found.result (FindsNone c.args.heading now) (BreaksOff c.args.heading given left taken after)
    (λ fault finds. BreaksOff-end c.args.heading given left taken after now reads fault finds) c.found.ensures.err
