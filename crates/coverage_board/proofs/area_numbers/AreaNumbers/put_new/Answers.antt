use Rattle.std.proofs.Common.{◌≡◌, sym, ◌∙◌, ap, rules}
use Rattle.coverage_board.specs.Numbers.{zero_numbers, moved}
use Rattle.coverage_board.proofs.AreaLemmas.{area_changed, area_kept, area_not_found, areas_with}
use Rattle.coverage_board.proofs.NumbersLemmas.{moved_to}
use Rattle.coverage_board.proofs.area_numbers.AreaNumbers.put_new.Goals as goal

pub returns-then-is_zero : goal.returns-then-is_zero
returns-then-is_zero c =
    let zero : c.args.part ≡ zero_numbers = c.is_zero.ensures.0 (search rules) in
    area_kept c.args.area.now c.args.part c.args.self.now c.requires zero

pub invariant_of-self-2 : goal.invariant_of-self-2
invariant_of-self-2 c =
    areas_with c.args.area.now c.args.part c.self.inside.map.entries c.insert.new.self.entries (λ q. rw c.in_ok-copied.ensures at (c.in_ok-insert.ensures.updates.0 q)) (λ zero. search (rules, c.is_zero.ensures.1 zero)) c.self.invariant

pub returns : goal.returns
returns c = λ a out.
    let is = sym (ap (λ n. moved n out c.args.part) (area_not_found c.args.area.now c.args.self.now c.requires) ∙ moved_to out c.args.part) in
    area_changed (λ n. moved n out c.args.part) c.args.area.now c.args.part c.args.self.now c.insert.new.self.entries is (λ q. rw (c.self.view_is, c.in_ok-copied.ensures) at (c.in_ok-insert.ensures.updates.0 q)) a
