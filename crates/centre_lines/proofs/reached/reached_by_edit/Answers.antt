use Rattle.std.proofs.Common.{◌∙◌, ap, sym}
use Rattle.centre_lines.specs.Following.{bears_on_none}
use Rattle.centre_lines.proofs.UnreachedLemmas.{none_was_reached}
use Rattle.centre_lines.proofs.reached.reached_by_edit.Goals as goal
use Rattle.centre_lines.proofs.reached.reached_by_edit.Goals.{in-Forget+in_ok-reached-in-Forget, in_default+in_ok-reached-in_default}

pub returns-then-bears_on_none-clause-reached : goal.returns-then-bears_on_none-clause-reached
returns-then-bears_on_none-clause-reached c = λ settings past a legal kept accepted.
    rw (c.new.ensures.items, c.new-then-bears_on_none.ensures.items) (none_was_reached past c.args.kept.now c.args.edit.now a kept (ap (λ st. bears_on_none st c.args.edit.now) (sym c.book.ensures) ∙ sym c.bears_on_none.ensures ∙ c.if-bears_on_none.true))

pub returns-clause-reached : goal.returns-clause-reached
returns-clause-reached c = λ settings past a legal kept accepted. elim c.match-edit.branch [
  | in-Forget+in_ok-reached-in-Forget w ↦ rw (w.reached-is) (w.in_ok-reached-in-Forget.ensures.reached settings past a legal kept accepted)
  | in_default+in_ok-reached-in_default w ↦ rw (w.reached-is) (w.in_ok-reached-in_default.ensures.reached settings past a legal kept accepted)
]
