use Rattle.std.proofs.Common.{◌≡◌, ◌++◌, ◌∷◌, [], true, false, ◌∙◌, if◌then◌else◌, ap, sym}
use Rattle.std.proofs.lemmas.List.{append-nil}
use Rattle.areas.specs.Areas.{areas_of}
use Rattle.warning_book.specs.Book.{names_one_of}
use Rattle.centre_lines.proofs.CoverageLemmas.{names_covering}
use Rattle.centre_lines.proofs.naming.put_covering.Goals as goal

-- one of its areas covers the cell
pub returns-in_ok-push-clause-put : goal.returns-in_ok-push-clause-put
returns-in_ok-push-clause-put c =
    let w = c.args.warning.now in
    let l = c.args.plan.now.areas in
    let is : names_one_of (areas_of l c.args.c) w ≡ true = names_covering l c.args.c w ∙ sym c.in_ok-has_covering.ensures.covering ∙ c.if-branch.true in
    c.in_ok-push.ensures.items
    ∙ ap (λ n. c.args.found.now.items ++ n ∷ []) c.number-n.ensures
    ∙ ap (λ t. c.args.found.now.items ++ (if t then w.number ∷ [] else [])) (sym is)

-- none does
pub returns-else-branch-clause-put : goal.returns-else-branch-clause-put
returns-else-branch-clause-put c =
    let w = c.args.warning.now in
    let l = c.args.plan.now.areas in
    let is : names_one_of (areas_of l c.args.c) w ≡ false = names_covering l c.args.c w ∙ sym c.in_ok-has_covering.ensures.covering ∙ c.if-branch.false in
    sym (append-nil c.args.found.now.items) ∙ ap (λ t. c.args.found.now.items ++ (if t then w.number ∷ [] else [])) (sym is)
