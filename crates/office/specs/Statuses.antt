-- How a centre stands, and what is seen of the whole of it, as an office tells it.
use Rattle.std.specs.Prelude.{◌≡◌}
use Rattle.centre_past.specs.Legal.{Known, Lawful, past}
use Rattle.centre_past.specs.Lists.{status}
use Rattle.centre_past.specs.declared.lists.centre_status.CentreStatus.{CentreStatus}
use Rattle.centre_questions.specs.Surveys.{survey}
use Rattle.centre_questions.specs.declared.survey.Survey.{Survey}
use Rattle.office.specs.Desks.{DeskState}
use Rattle.office.specs.Offices.{Meets}

-- some centre that has as many entries of the desk as that has receipts stands so; it may be stale
pub record IsStatusSomewhere (d : DeskState) (s : CentreStatus) : Type 0 where
  pub centre : Known
  pub meets : Meets centre d
  pub is : s ≡ status centre

-- this is what is seen of some centre with a lawful past, all at one moment; it may be stale
pub record IsSurveySomewhere (s : Survey) : Type 0 where
  pub centre : Known
  pub lawful : Lawful centre.settings (past centre)
  pub is : s ≡ survey centre
