use Rattle.console_text.proofs.answer_text.text_of.Goals as goal

pub returns-in-Accepted : goal.returns-in-Accepted
returns-in-Accepted c = rw c.in-Accepted.is c.accepted_text.ensures
