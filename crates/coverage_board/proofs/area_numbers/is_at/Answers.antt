use Rattle.std.proofs.Common.{◌≡◌, Some, sym, ◌∙◌, ap}
use Rattle.coverage_board.specs.Board.{area_in}
use Rattle.coverage_board.specs.declared.numbers.Numbers.{Numbers}
use Rattle.coverage_board.proofs.AreaLemmas.{area_found}
use Rattle.coverage_board.proofs.area_numbers.is_at.Goals as goal

pub returns-in-Some : goal.returns-in-Some
returns-in-Some c =
    let entries = c.args.map.now.entries in
    let name = c.in-Some.name.now in
    let numbers : Numbers = c.in-Some.field-0-1.now in
    let is : area_in entries name ≡ numbers = area_found name entries numbers c.in-Some.ensures.value in
    λ h. sym c.in-Some.ensures.entry ∙ ap (λ n. Some (name, n)) (sym is) ∙ ap (λ k. Some (k, area_in entries k)) (c.eq.ensures.same.0 h)
