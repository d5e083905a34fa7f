-- What a gate is told: at which step it is, and which of the reports answer what was in flight.
use Rattle.std.specs.Prelude.{◌≡◌, ◌⊎◌, [], ◌∷◌, ◌++◌}
use Rattle.centre_events.specs.declared.answer.Answer.{Answer}
use Rattle.centre_events.specs.declared.answer.Answer.TheVariants.{Replied}
use Rattle.link_worker.specs.declared.gate.Step.{Step}
use Rattle.link_worker.specs.declared.gate.Step.TheVariants as step
use Rattle.link_worker.specs.declared.passage.Passage.{Passage}
use Rattle.link_worker.specs.declared.passage.Passage.TheVariants as passage
use Rattle.office.specs.Desks.{DeskState}
use Rattle.office.specs.declared.receipt.Receipt.{Receipt}

-- the step at which it passes
abbrev pub step_of : Passage → Step
step_of (passage.Order frame place) = step.BeforeWrite
step_of passage.Reply = step.AfterReport
step_of passage.Report = step.AfterReport

-- a report that was entered: it answered what was in flight where its answer says what a reply says
abbrev pub report_passage : Answer → Passage
report_passage (Replied replies) = passage.Reply
report_passage other = passage.Report

-- what a gate is told of a report that was submitted: by its receipt where it was entered, and a report where it was refused
abbrev pub IsPassageOf : DeskState → DeskState → Passage → Type 0
IsPassageOf old new p =
    ((r : Receipt) × (new.receipts ≡ old.receipts ++ r ∷ []) × (p ≡ report_passage r.answer)) ⊎ ((new.receipts ≡ old.receipts) × (p ≡ passage.Report))
