use Rattle.std.proofs.Common.{sym, ◌∙◌}
use Rattle.mirror.proofs.IndexLemmas.{keys_few}
use Rattle.mirror.proofs.TableLemmas.{own_full, own_kept}
use Rattle.mirror.proofs.line_table.LineTable.places_of.Goals as goal

pub returns-clause-which : goal.returns-clause-which
returns-clause-which c = λ b d v. rw (← c.self.view_is) (c.in_ok-keys.ensures.which b d v ∙ own_kept c.args.w c.self.inside.index c.self.inside.lines c.self.invariant.none_blank c.self.invariant.indexed c.self.invariant.numbered b d v)

pub returns-clause-few : goal.returns-clause-few
returns-clause-few c =
    rw (← c.self.view_is) (λ ks all. keys_few c.args.w c.in_ok-keys.keys.items ks c.in_ok-keys.ensures.order
    (λ b d v h. own_full c.args.w c.self.inside.lines ks all b d v (sym (c.in_ok-keys.ensures.which b d v ∙ own_kept c.args.w c.self.inside.index c.self.inside.lines c.self.invariant.none_blank c.self.invariant.indexed c.self.invariant.numbered b d v) ∙ h)))
