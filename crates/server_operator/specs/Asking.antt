-- What an operator is answered who asks for the numbers of a warning, or for what is pending for a BSC or reported by it.
use Rattle.std.specs.Prelude.{◌≡◌, ◌⊎◌}
use Rattle.centre_events.specs.declared.refusal.Refusal.{Refusal}
use Rattle.centre_questions.specs.declared.question.Question.{Question}
use Rattle.centre_questions.specs.declared.seen_value.SeenValue.{SeenValue}
use Rattle.centre_questions.specs.declared.seen_value.SeenValue.TheVariants as value
use Rattle.console_text.specs.declared.response.Response.{Response}
use Rattle.console_text.specs.declared.response.Response.TheVariants as response
use Rattle.office.specs.Desks.{DeskState}
use Rattle.office.specs.Offices.{IsSeenSomewhere, IsUnseenSomewhere}
use Rattle.office.specs.declared.seen.Seen.{Seen}

-- how that is answered; nothing else is asked for by a line of the console
abbrev pub told : SeenValue → Response
told (value.Numbers numbers) = response.Board numbers
told (value.Pending orders) = response.Pending orders
told (value.Table keys) = response.Table keys
told other = response.Silence

-- the response is what was seen in one centre, that is at one moment
pub record IsTold (d : DeskState) (q : Question) (r : Response) : Type 0 where
  pub seen : Seen
  pub somewhere : IsSeenSomewhere d q seen
  pub is : r ≡ told seen.value

-- the response is the cause for which the centre refuses the question
pub record IsUntold (d : DeskState) (q : Question) (r : Response) : Type 0 where
  pub cause : Refusal
  pub somewhere : IsUnseenSomewhere d q cause
  pub is : r ≡ response.Refused cause

-- how the question is answered
abbrev pub IsAskAnswer : DeskState → Question → Response → Type 0
IsAskAnswer d q r = IsTold d q r ⊎ IsUntold d q r
