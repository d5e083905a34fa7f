use Rattle.centre_answers.proofs.events.answer.Goals as goal

pub returns-in-Send-clause-verdict : goal.returns-in-Send-clause-verdict
returns-in-Send-clause-verdict c =
    λ settings past legal same kept knows listed place. rw (same, c.in-Send.is) (c.send.ensures settings past legal kept (listed c.in-Send.b))
