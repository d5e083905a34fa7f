use Rattle.std.proofs.Common.{◌≡◌, ◌∙◌, None, Some, ap, refl, rules, sym, true}
use Rattle.std.specs.List.{list_any}
use Rattle.areas.specs.Areas.{selects}
use Rattle.kept_tables.specs.View.{key_of}
use Rattle.centre_answers.proofs.ListLemmas.{failed_told, no_row}
use Rattle.centre_answers.proofs.lists.failed.failed_at.Goals as goal

pub returns-in_err-why-clause-row : goal.returns-in_err-why-clause-row
returns-in_err-why-clause-row c =
    let gone : c.failure.result ≡ None = search rules in
    let none : c.from_residual.result ≡ None = search rules in
    λ past t tells downs same wants placed.
    none
    ∙ sym (no_row (list_any (λ s. selects s c.args.c) c.args.wanted.now.coverages.now) c.args.b c.args.c)
    ∙ sym (failed_told past t c.args.tables.now c.args.wanted.now.warning.now c.args.wanted.now.serial c.args.wanted.now.coverages.now c.args.b c.args.c c.key_of.result c.kind.result None (list_any (λ s. selects s c.args.c) c.args.wanted.now.coverages.now) tells downs same wants placed (c.key_of.ensures ∙ ap (key_of c.args.b c.args.c) c.number.ensures) c.kind.ensures (sym gone ∙ c.failure.ensures.why) refl)

pub returns-clause-row : goal.returns-clause-row
returns-clause-row c =
    let there : c.failure.result ≡ Some c.in_ok-why.why = search rules in
    let covered : c.is_covered.result ≡ true = search rules in
    λ past t tells downs same wants placed.
    sym (failed_told past t c.args.tables.now c.args.wanted.now.warning.now c.args.wanted.now.serial c.args.wanted.now.coverages.now c.args.b c.args.c c.key_of.result c.kind.result (Some c.in_ok-why.why) true tells downs same wants placed (c.key_of.ensures ∙ ap (key_of c.args.b c.args.c) c.number.ensures) c.kind.ensures (sym there ∙ c.failure.ensures.why) (sym covered ∙ c.is_covered.ensures))
