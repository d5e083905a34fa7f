use Rattle.std.proofs.Common.{◌∷◌, ◌++◌, [], ap, append-nil, sym, ◌∙◌}
use Rattle.office.proofs.HandingLemmas.{copied_none, copied_one}
use Rattle.office.proofs.copying.copy_entry.Goals as goal

pub returns-in_ok-copy-in-Some-clause-copied : goal.returns-in_ok-copy-in-Some-clause-copied
returns-in_ok-copy-in-Some-clause-copied c =
    let one = copied_one c.args.centre.now.known.folded c.args.centre.now.known.journal c.args.place c.in-Some.entry.now c.requires.unfolded c.in-Some.ensures.value in
    c.push_reserved.ensures.items ∙ ap (λ xs. xs ++ c.in_ok-copy-in-Some.copy ∷ []) c.in_ok-try_reserve.ensures.items
    ∙ ap (λ x. c.args.copies.now.items ++ x ∷ []) c.in_ok-copy-in-Some.ensures ∙ ap (λ xs. c.args.copies.now.items ++ xs) (sym one)

pub returns-in-None-clause-copied : goal.returns-in-None-clause-copied
returns-in-None-clause-copied c =
    let none = copied_none c.args.centre.now.known.folded c.args.centre.now.known.journal c.args.place c.requires.unfolded c.in-None.ensures.value in
    c.in_ok-try_reserve.ensures.items ∙ sym (append-nil c.args.copies.now.items) ∙ ap (λ xs. c.args.copies.now.items ++ xs) (sym none)
