use Rattle.std.proofs.Common.{◌≡◌, subst}
use Rattle.std.specs.Prelude.{IfOk}
use Rattle.centre_questions.specs.Surveys.{survey}
use Rattle.office.specs.Helds.{HeldState}
use Rattle.office.proofs.held.Held.survey.Goals as goal

pub returns : goal.returns
returns g c = subst (λ (v : HeldState). IfOk c.survey.result (λ s. s ≡ survey v.centre)) c.self.view_is c.survey.ensures
