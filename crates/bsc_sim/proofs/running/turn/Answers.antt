use Rattle.std.proofs.Common.{sym, ◌∙◌, arith}
use Rattle.std.proofs.lemmas.List.{nil_from_length}
use Rattle.std.proofs.KnownBytes.{Consumes-kept, Consumes-nil}
use Rattle.bsc_sim.proofs.ConversationLemmas.{turns_cut, turns_ended, turns_failed}
use Rattle.bsc_sim.proofs.running.turn.Goals as goal

pub returns-then-rest-eq0-clause-err : goal.returns-then-rest-eq0-clause-err
returns-then-rest-eq0-clause-err g c =
    turns_ended _ _ c.args.framer.now _ _ _ c.requires (nil_from_length _ (sym c.rest.ensures ∙ c.if-rest-eq0.true)) (rw c.in-Ok-eq0.field-0-test at c.in-Ok-eq0.ensures.octets.0)
    (c.in-Ok-eq0.ensures.octets.1 c.in-Ok-eq0.field-0-test (omega arith))

pub returns-else-rest-eq0-clause-err : goal.returns-else-rest-eq0-clause-err
returns-else-rest-eq0-clause-err g c =
    turns_cut _ _ c.args.framer.now _ _ _ c.requires (omega (arith, c.rest.ensures, c.if-rest-eq0.false)) (rw c.in-Ok-eq0.field-0-test at c.in-Ok-eq0.ensures.octets.0)
    (c.in-Ok-eq0.ensures.octets.1 c.in-Ok-eq0.field-0-test (omega arith))

pub returns-in-Err-clause-err : goal.returns-in-Err-clause-err
returns-in-Err-clause-err g c = turns_failed _ _ c.args.framer.now _ _ _ c.requires (Consumes-kept _ _ _ _ (Consumes-nil _) c.in-Err.ensures.octets)
