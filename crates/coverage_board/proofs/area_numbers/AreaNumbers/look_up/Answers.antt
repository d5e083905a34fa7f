use Rattle.std.proofs.Common.{◌≡◌, Some, bytes_eq, sym, ◌∙◌, ap}
use Rattle.coverage_board.specs.Board.{area_in}
use Rattle.coverage_board.specs.declared.numbers.Numbers.{Numbers}
use Rattle.coverage_board.proofs.AreaLemmas.{area_found, key_found, names_decide}
use Rattle.coverage_board.proofs.area_numbers.AreaNumbers.look_up.Goals as goal

pub returns-clause-found : goal.returns-clause-found
returns-clause-found c =
    let entries = c.self.inside.map.entries in
    let area = c.args.area.now in
    let name = c.in_ok-place.field-0-1.now in
    let numbers : Numbers = c.in_ok-place.field-0-2.now in
    let key : name ≡ area = key_found bytes_eq names_decide area entries name (sym c.in_ok-place.ensures.key) in
    let is : area_in entries area ≡ numbers = area_found area entries numbers (sym c.in_ok-place.ensures.value) in
    rw (← c.self.view_is) (c.in_ok-place.ensures.entry ∙ ap (λ k. Some (k, numbers)) key ∙ ap (λ n. Some (area, n)) (sym is))
