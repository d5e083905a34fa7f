use Rattle.std.proofs.Common.{ap}
use Rattle.console.specs.Consoles.{ConsoleState}
use Rattle.console.proofs.replaying.replay.Goals as goal

pub returns-clause-all : goal.returns-clause-all
returns-clause-all g c =
    let session = ap (λ (s : ConsoleState). s.session) c.new-console.ensures in
    rw (← session) c.answer_all.ensures.all

pub returns-clause-part : goal.returns-clause-part
returns-clause-part g c =
    let session = ap (λ (s : ConsoleState). s.session) c.new-console.ensures in
    rw (← session) c.answer_all.ensures.part
