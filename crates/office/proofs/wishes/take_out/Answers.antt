use Rattle.std.proofs.Common.{◌≡◌, ◌<◌, List, length, not, rules, subst, sym, arith}
use Rattle.std.proofs.lemmas.Fn.{filter_same}
use Rattle.office.specs.Wishes.{is_wish_of, without_wish}
use Rattle.office.specs.declared.wish.Wish.{Wish}
use Rattle.office.proofs.KeptLemmas.{shorter}
use Rattle.office.proofs.wishes.take_out.Goals as goal

pub returns-clause-left : goal.returns-clause-left
returns-clause-left c = filter_same _ (λ w. not (is_wish_of c.args.b w)) _ (λ w b w' k. search rules) _ _ c.retain.ensures.filtered

pub returns-clause-shorter : goal.returns-clause-shorter
returns-clause-shorter c = λ is.
    let left : c.retain.new.self.items ≡ without_wish c.args.b c.args.wishes.now.items = filter_same _ (λ w. not (is_wish_of c.args.b w)) _ (λ w b w' k. search rules) _ _ c.retain.ensures.filtered in
    let fewer : length c.retain.new.self.items < length c.args.wishes.now.items = subst (λ (ws : List Wish). length ws < length c.args.wishes.now.items) (sym left) (shorter c.args.b c.args.wishes.now.items is) in
    let new = c.retain.new.self.ok.0 in
    let old = c.args.wishes.now.ok.0 in
    omega (arith, fewer, new, old)
