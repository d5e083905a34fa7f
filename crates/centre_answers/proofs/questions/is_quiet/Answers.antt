use Rattle.std.proofs.Common.{◌≡◌, ◌&&◌, ◌∙◌, true, not, sym, ap}
use Rattle.centre_events.specs.Links.{is_up}
use Rattle.centre_events.specs.Pending.{all_actions}
use Rattle.centre_past.specs.LinkStates.{has_pending}
use Rattle.centre_past.proofs.BscLemmas.{up_bsc}
use Rattle.centre_answers.proofs.QuestionLemmas.{pending_list}
use Rattle.centre_answers.proofs.questions.is_quiet.Goals as goal

pub returns-then-is_up-clause-quiet : goal.returns-then-is_up-clause-quiet
returns-then-is_up-clause-quiet c = λ settings past legal kept.
    let b = c.args.b in
    let up : is_up past b ≡ true = sym (c.is_up.ensures ∙ kept.linked.ups b) ∙ c.if-is_up.true in
    let has : c.has.result ≡ has_pending past b = c.has.ensures (all_actions past b) (pending_list settings past legal c.args.kept.now.tables kept.tables b) in
    ap not has ∙ ap (λ t. t && not (has_pending past b)) (sym up)

pub returns-then-is_up-clause-there : goal.returns-then-is_up-clause-there
returns-then-is_up-clause-there c = λ settings past legal kept quiet.
    up_bsc settings past legal c.args.b (sym (c.is_up.ensures ∙ kept.linked.ups c.args.b) ∙ c.if-is_up.true)
