use Rattle.std.proofs.lemmas.Result.{err_from_is_err_and}
use Rattle.journal_file.proofs.ReadingLemmas.{BreaksOff-more, ReadsOn-more}
use Rattle.journal_file.proofs.reading.turn.Goals as goal

-- a line of what was read isn't taken
pub returns-in_err-take_piece-in-Ok-clause-err : goal.returns-in_err-take_piece-in-Ok-clause-err
returns-in_err-take_piece-in-Ok-clause-err g c =
    let p = err_from_is_err_and c.from_residual.result c.from_residual.ensures.1 in
    rw (p.1, p.2) (λ given before reads. BreaksOff-more c.args.heading given _ _ before _ _ _ _ _ reads c.in-Ok.ensures.octets.0 c.in_err-take_piece-in-Ok.ensures.err)

-- all lines of what was read pass
pub returns-in_ok-take_piece-in-Ok-clause-ok : goal.returns-in_ok-take_piece-in-Ok-clause-ok
returns-in_ok-take_piece-in-Ok-clause-ok g c =
    λ given before reads. ReadsOn-more c.args.heading given _ _ before _ _ _ _ _ reads c.in-Ok.ensures.octets.0 c.in_ok-take_piece-in-Ok.ensures.ok
