use Rattle.console.proofs.LineLemmas.{responded}
use Rattle.console.proofs.session.Session.respond.Goals as goal

pub returns-clause-answer : goal.returns-clause-answer
returns-clause-answer c =
    responded c.args.self.now c.meet.new.self c.args.line c.generation_for-generation.result c.in_ok-event.event c.meet.result
    c.generation_for-generation.ensures c.in_ok-event.ensures c.meet.ensures.answer
