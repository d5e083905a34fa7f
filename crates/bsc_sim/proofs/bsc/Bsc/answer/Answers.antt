use Rattle.std.proofs.Common.{sym, subst}
use Rattle.std.proofs.lemmas.Result.{IfOk-weaker}
use Rattle.cbsp_messages.specs.Written.{Fits}
use Rattle.bsc_sim.proofs.FitLemmas.{carried_fits}
use Rattle.bsc_sim.proofs.bsc.Bsc.answer.Goals as goal

pub returns-in-WriteReplace-clause-fits : goal.returns-in-WriteReplace-clause-fits
returns-in-WriteReplace-clause-fits c =
    let m = c.in-WriteReplace.m in
    IfOk-weaker _ _ _ (λ reply h. subst Fits (sym h) (carried_fits c.args.self.now c.args.choices.now c.of-request.result m.cells)) c.carry_out.ensures.reply

pub returns-in-WriteEmergency-clause-fits : goal.returns-in-WriteEmergency-clause-fits
returns-in-WriteEmergency-clause-fits c =
    let m = c.in-WriteEmergency.m in
    IfOk-weaker _ _ _ (λ reply h. subst Fits (sym h) (carried_fits c.args.self.now c.args.choices.now c.of-request-in-WriteEmergency.result m.cells)) c.carry_out-in-WriteEmergency.ensures.reply

pub returns-in-Kill-clause-fits : goal.returns-in-Kill-clause-fits
returns-in-Kill-clause-fits c =
    let m = c.in-Kill.m in
    IfOk-weaker _ _ _ (λ reply h. subst Fits (sym h) (carried_fits c.args.self.now c.args.choices.now c.of-request-in-Kill.result m.cells)) c.carry_out-in-Kill.ensures.reply

pub returns-in-StatusQuery-clause-fits : goal.returns-in-StatusQuery-clause-fits
returns-in-StatusQuery-clause-fits c =
    let m = c.in-StatusQuery.m in
    IfOk-weaker _ _ _ (λ reply h. subst Fits (sym h) (carried_fits c.args.self.now c.args.choices.now c.of-request-in-StatusQuery.result m.cells)) c.carry_out-in-StatusQuery.ensures.reply
