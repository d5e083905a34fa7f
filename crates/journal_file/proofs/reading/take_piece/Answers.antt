use Rattle.std.proofs.Common.{◌≡◌, ℕ, List, ◌∷◌, [], ◌++◌, Option, length, ◌∙◌, sym, ap, subst, arith, append_assoc, length-append}
use Rattle.std.proofs.lemmas.Result.{err_from_is_err_and}
use Rattle.journal_file.specs.Loading.{LoadingState}
use Rattle.journal_file.specs.Reading.{Passing, Breaking}
use Rattle.journal_file.specs.declared.load_fault.LoadFault.TheVariants.{Memory}
use Rattle.journal_file.proofs.ReadingLemmas.{Breaking-memory, Breaking-line, Passing-line, Passing-run}
use Rattle.journal_file.proofs.reading.take_piece.Goals as goal

-- there is no memory for the rest
pub returns-in_err-line-clause-err : goal.returns-in_err-line-clause-err
returns-in_err-line-clause-err g c =
    let p = err_from_is_err_and c.from_residual.result c.from_residual.ensures.1 in
    rw (p.1, p.2) (λ octets before passing.
    let at = c.loop-line.invariant.passes octets before passing in
    rw at.1 (subst (λ s. Breaking c.args.heading s before (g.T.TakeLine.taken c.loop-line.taker) Memory) (append_assoc octets at.0 c.loop-line.rest.now)
    (Breaking-memory c.args.heading (octets ++ at.0) c.loop-line.rest.now before (g.T.TakeLine.taken c.loop-line.taker) c.loop-line.loading at.2)))

-- a line isn't taken
pub returns-in_err-take_one-clause-err : goal.returns-in_err-take_one-clause-err
returns-in_err-take_one-clause-err g c =
    let p = err_from_is_err_and c.from_residual-in_err-take_one.result c.from_residual-in_err-take_one.ensures.1 in
    let takes = rw c.in-Some.is at c.in_ok-line.ensures.ok in
    let stops = rw (c.ended.ensures, c.as_slice.ensures) at c.in_err-take_one.ensures.err in
    rw (p.1, p.2) (λ octets before passing.
    let at = c.loop-line.invariant.passes octets before passing in
    rw at.1 (subst (λ s. Breaking c.args.heading s before (g.T.TakeLine.taken c.take_one.new.taker) c.in_err-take_one.field-0.0) (append_assoc octets at.0 c.loop-line.rest.now)
    (Breaking-line c.args.heading (octets ++ at.0) before (g.T.TakeLine.taken c.loop-line.taker) (g.T.TakeLine.taken c.take_one.new.taker) c.loop-line.loading c.take.new.self c.loop-line.rest.now _ _ _ takes at.2 stops)))

-- a line passes
pub loop-line-preserved : goal.loop-line-preserved
loop-line-preserved g c =
    let takes = rw c.in-Some.is at c.in_ok-line.ensures.ok in
    let passes = rw (c.ended.ensures, c.as_slice.ensures) at c.in_ok-take_one.ensures.ok in
    let line : List ℕ = takes.run ++ 10 ∷ [] in
    let cut : c.loop-line.rest.now ≡ line ++ c.in-Some.behind.now = takes.cut ∙ sym (append_assoc takes.run (10 ∷ []) c.in-Some.behind.now) in
    record {
      count = omega (arith, c.loop-line.invariant.count, ap (λ (s : LoadingState). s.octets) takes.state, ap length cut, length-append line c.in-Some.behind.now, length-append takes.run (10 ∷ []));
      passes = λ octets before passing.
          let at = c.loop-line.invariant.passes octets before passing in
          let next = Passing-line c.args.heading (octets ++ at.0) before (g.T.TakeLine.taken c.loop-line.taker) (g.T.TakeLine.taken c.take_one.new.taker) c.loop-line.loading c.take.new.self c.loop-line.rest.now _ _ takes at.2 passes in (
            at.0 ++ line,
            at.1 ∙ ap (λ s. at.0 ++ s) cut ∙ sym (append_assoc at.0 line c.in-Some.behind.now),
            subst (λ s. Passing c.args.heading s c.take.new.self before (g.T.TakeLine.taken c.take_one.new.taker)) (append_assoc octets at.0 line) next,
          );
    }

-- no line ends in the rest
pub returns-clause-ok : goal.returns-clause-ok
returns-clause-ok g c =
    let takes = rw c.in_default.is at c.in_ok-line.ensures.ok in
    λ octets before passing.
    let at = c.loop-line.invariant.passes octets before passing in
    rw at.1 (subst (λ s. Passing c.args.heading s c.take.new.self before (g.T.TakeLine.taken c.loop-line.taker)) (append_assoc octets at.0 c.loop-line.rest.now)
    (Passing-run c.args.heading (octets ++ at.0) before (g.T.TakeLine.taken c.loop-line.taker) c.loop-line.loading c.take.new.self c.loop-line.rest.now at.2 takes))
