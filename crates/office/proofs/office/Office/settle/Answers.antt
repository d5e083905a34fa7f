use Rattle.std.proofs.Common.{length, subst, sym}
use Rattle.std.proofs.lemmas.Result.{IfErr-weaker, IfOk-weaker}
use Rattle.centre_past.specs.Legal.{Known, Lawful, past}
use Rattle.office.proofs.ShuffleLemmas.{of_both, some_fault, some_shuffle}
use Rattle.office.proofs.office.Office.settle.Goals as goal

pub returns-clause-settled : goal.returns-clause-settled
returns-clause-settled g c =
    of_both c.settle.result _ _ _ (λ x shuffle is. some_shuffle (length c.into_inner-held.result.rows) c.into_inner-held.result.centre x.known c.args.desks.items is shuffle) c.settle.ensures.settled c.settle.ensures.centre

pub returns-clause-lawful : goal.returns-clause-lawful
returns-clause-lawful g c =
    IfOk-weaker c.settle.result _ _ (λ x is. subst (λ (k : Known). Lawful k.settings (past k)) (sym is) c.tell_soundness.ensures.lawful) c.settle.ensures.centre

pub returns-clause-fault : goal.returns-clause-fault
returns-clause-fault g c = IfErr-weaker c.settle.result _ _ (λ u h. some_fault (length c.into_inner-held.result.rows) u.centre.known c.args.desks.items u.fault h) c.settle.ensures.fault

pub returns-clause-lawful_fault : goal.returns-clause-lawful_fault
returns-clause-lawful_fault g c =
    IfErr-weaker c.settle.result _ _ (λ u is. subst (λ (k : Known). Lawful k.settings (past k)) (sym is) c.tell_soundness.ensures.lawful) c.settle.ensures.kept
