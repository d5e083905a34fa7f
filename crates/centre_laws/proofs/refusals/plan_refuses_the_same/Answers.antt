use Rattle.centre_laws.proofs.FoldedCauseLemmas.{refuses_carried}
use Rattle.centre_laws.proofs.PlanCauseLemmas.{refuses_as_plan}
use Rattle.centre_laws.proofs.refusals.plan_refuses_the_same.Goals as goal

pub returns-clause-whole : goal.returns-clause-whole
returns-clause-whole c = λ past tied. refuses_as_plan past c.args.plan.now c.tell_soundness.ensures tied

pub returns-clause-folded : goal.returns-clause-folded
returns-clause-folded c = λ p q same tied.
    refuses_carried p q c.args.plan.now same (refuses_as_plan p c.args.plan.now c.tell_soundness.ensures tied)
