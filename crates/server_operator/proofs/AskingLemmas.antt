-- From what an office shows to what a question is answered.
use Rattle.std.proofs.Common.{◌≡◌, inl, inr}
use Rattle.centre_events.specs.declared.refusal.Refusal.{Refusal}
use Rattle.centre_questions.specs.declared.question.Question.{Question}
use Rattle.console_text.specs.declared.response.Response.{Response}
use Rattle.console_text.specs.declared.response.Response.TheVariants as response
use Rattle.office.specs.Desks.{DeskState}
use Rattle.office.specs.Offices.{IsSeenSomewhere, IsUnseenSomewhere}
use Rattle.office.specs.declared.seen.Seen.{Seen}
use Rattle.server_operator.specs.Asking.{IsAskAnswer, told}

-- what was seen
pub seen_told : (d : DeskState) (q : Question) (s : Seen) (r : Response) → IsSeenSomewhere d q s → r ≡ told s.value → IsAskAnswer d q r
seen_told d q s r somewhere is = inl (record { seen = s; somewhere = somewhere; is = is })

-- or why nothing was
pub unseen_told : (d : DeskState) (q : Question) (cause : Refusal) (r : Response) → IsUnseenSomewhere d q cause → r ≡ response.Refused cause → IsAskAnswer d q r
unseen_told d q cause r somewhere is = inr (record { cause = cause; somewhere = somewhere; is = is })
