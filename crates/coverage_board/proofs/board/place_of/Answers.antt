use Rattle.std.proofs.Common.{◌≡◌, Some, nat_eq, sym, ◌∙◌, ap, unwrap_or}
use Rattle.std.specs.Cmp.{unsigned_Decides}
use Rattle.coverage_board.specs.Board.{WarningNumbers, nothing, row_of}
use Rattle.coverage_board.proofs.AreaLemmas.{key_found}
use Rattle.coverage_board.proofs.board.place_of.Goals as goal

pub returns-in_ok-place-in_default-clause-found : goal.returns-in_ok-place-in_default-clause-found
returns-in_ok-place-in_default-clause-found c =
    let found = c.in_ok-place-in_default in
    let entries = c.args.rows.now.entries in
    let number = c.args.number in
    let row : WarningNumbers = found.field-0-2.now in
    let key : found.field-0-1.now ≡ number = key_found nat_eq unsigned_Decides number entries found.field-0-1.now (sym found.ensures.key) in
    let is : row_of entries number ≡ row = ap (λ o. unwrap_or o nothing) (sym found.ensures.value) in
    found.ensures.entry ∙ ap (λ k. Some (k, row)) key ∙ ap (λ r. Some (number, r)) (sym is)
