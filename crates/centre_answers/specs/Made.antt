-- What an edit is answered, by what it gave.
use Rattle.centre_events.specs.declared.answer.Answer.{Answer}
use Rattle.centre_events.specs.declared.answer.Answer.TheVariants as answer
use Rattle.coverage_plan.specs.declared.made.Made.{Made}
use Rattle.coverage_plan.specs.declared.made.Made.TheVariants as made

-- the answer that says the same
abbrev pub answer_of : Made → Answer
answer_of made.Done = answer.Done
answer_of (made.Issued n s) = answer.Issued n s
answer_of (made.Updated s) = answer.Updated s
