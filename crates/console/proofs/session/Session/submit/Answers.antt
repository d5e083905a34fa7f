use Rattle.std.proofs.Common.{refl}
use Rattle.console.proofs.SessionLemmas.{accepted, refused}
use Rattle.console.proofs.session.Session.submit.Goals.{in-Ok, in-Err}
use Rattle.console.proofs.session.Session.submit.Goals as goal

pub returns-clause-answer : goal.returns-clause-answer
returns-clause-answer c =
    elim c.match-accept.branch [
      | in-Ok w ↦
          rw (w.result-is, ← c.self.view_is)
          (accepted _ _ c.args.event w.in-Ok.answer w.position.result refl w.in-Ok.ensures.answer w.in-Ok.ensures.whole w.in-Ok.ensures.entry w.position.ensures)
      | in-Err w ↦
          rw (w.result-is, ← c.self.view_is)
          (refused _ _ c.args.event w.in-Err.refusal refl w.in-Err.ensures.refusal w.in-Err.ensures.left)
    ]
