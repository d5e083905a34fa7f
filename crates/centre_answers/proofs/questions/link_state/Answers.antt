use Rattle.std.proofs.Common.{◌∙◌}
use Rattle.centre_events.specs.Pending.{all_actions}
use Rattle.centre_answers.proofs.QuestionLemmas.{link_told, pending_list}
use Rattle.centre_answers.proofs.questions.link_state.Goals as goal

pub returns : goal.returns
returns c = λ settings past legal kept.
    link_told past c.args.b
    (c.generation.ensures ∙ kept.linked.generations c.args.b)
    (c.is_up.ensures ∙ kept.linked.ups c.args.b)
    (c.has.ensures (all_actions past c.args.b) (pending_list settings past legal c.args.kept.now.tables kept.tables c.args.b))
