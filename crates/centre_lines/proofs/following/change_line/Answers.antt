use Rattle.std.proofs.Common.{◌≡◌, ◌++◌, ◌∷◌, [], ◌∙◌, not, nat_eq, length, ap, sym, subst}
use Rattle.std.proofs.lemmas.Bool.{and_parts, not-true}
use Rattle.std.proofs.lemmas.Result.{on_ok_weaker}
use Rattle.kept_tables.specs.Changes.{Change, mixed}
use Rattle.kept_tables.specs.Consistent.{Consistent}
use Rattle.kept_tables.specs.declared.line_facts.LineFacts.{LineFacts}
use Rattle.centre_lines.specs.Following.{Happens, change_of, covered_change, happens, leaves_areas_then, leaves_lines}
use Rattle.centre_lines.proofs.BlankLineLemmas.{line_stays}
use Rattle.centre_lines.proofs.CoveredLemmas.{covered_areas, covered_before}
use Rattle.centre_lines.proofs.MakingLemmas.{next_as}
use Rattle.centre_lines.proofs.following.change_line.Goals as goal

-- the change is the next
pub make-requires-clause-next : goal.make-requires-clause-next
make-requires-clause-next c =
    let h : Happens = happens c.args.h.now in
    let x : Change = record { key = c.args.earlier.now.key; before = c.facts-before.result; after = c.in_ok-after.after } in
    let same : change_of h c.args.plan.now c.args.tables.now c.args.earlier.now ≡ x = λ i. record { key = c.args.earlier.now.key; before = sym c.facts-before.ensures i; after = sym c.in_ok-after.ensures.facts i } in
    next_as c.args.tables.now (change_of h c.args.plan.now c.args.tables.now c.args.earlier.now) x same c.requires.next

-- the line is itself, where it is known to stay
pub make-requires-clause-line : goal.make-requires-clause-line
make-requires-clause-line c =
    let h : Happens = happens c.args.h.now in
    λ yes.
    let parts = and_parts (leaves_lines h.event) (not (nat_eq (length c.in_ok-after.after.versions) 0)) (sym c.line_stays.ensures ∙ yes) in
    ap (λ (f : LineFacts). f.line) c.facts-before.ensures
    ∙ line_stays h c.args.plan.now c.args.tables.now c.args.earlier.now parts.0 (ap (λ (f : LineFacts). nat_eq (length f.versions) 0) (sym c.in_ok-after.ensures.facts) ∙ not-true (nat_eq (length c.in_ok-after.after.versions) 0) parts.1)
    ∙ ap (λ (f : LineFacts). f.line) (sym c.in_ok-after.ensures.facts)

-- the areas that cover its cell are those that did, where they are known to stay
pub make-requires-clause-areas : goal.make-requires-clause-areas
make-requires-clause-areas c =
    let h : Happens = happens c.args.h.now in
    λ yes.
    let parts = and_parts (leaves_areas_then h.event) (not (nat_eq (length c.in_ok-after.after.versions) 0)) (sym c.areas_stay.ensures ∙ yes) in
    let after : c.in_ok-after.after ≡ (covered_change h c.args.plan.now c.args.tables.now c.args.earlier.now).after =
    c.in_ok-after.ensures.facts ∙ ap (λ (x : Change). x.after) (sym (covered_before h c.args.plan.now c.args.tables.now c.args.earlier.now (c.requires.covered parts.0))) in
    ap (λ (f : LineFacts). f.areas) c.facts-before.ensures
    ∙ sym (covered_areas h c.args.plan.now c.args.tables.now c.args.earlier.now (ap (λ (f : LineFacts). nat_eq (length f.versions) 0) (sym after) ∙ not-true (nat_eq (length c.in_ok-after.after.versions) 0) parts.1))
    ∙ ap (λ (f : LineFacts). f.areas) (sym after)

-- it is made
pub returns-clause-made : goal.returns-clause-made
returns-clause-made c =
    let h : Happens = happens c.args.h.now in
    let x : Change = record { key = c.args.earlier.now.key; before = c.facts-before.result; after = c.in_ok-after.after } in
    let same : change_of h c.args.plan.now c.args.tables.now c.args.earlier.now ≡ x = λ i. record { key = c.args.earlier.now.key; before = sym c.facts-before.ensures i; after = sym c.in_ok-after.ensures.facts i } in
    on_ok_weaker c.make.result
    (λ done n. subst (λ y. Consistent c.make.new.self (mixed n.begins.from n.begins.to (n.done ++ y ∷ []))) (sym same) (done (next_as c.args.tables.now (change_of h c.args.plan.now c.args.tables.now c.args.earlier.now) x same n)))
    c.make.ensures.made
