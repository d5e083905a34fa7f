use Rattle.std.proofs.Common.{◌≡◌, ◌∙◌, get_or, subst, true}
use Rattle.std.specs.Prelude.{All, IsTrue}
use Rattle.std.proofs.lemmas.List.{take_all}
use Rattle.std.proofs.lemmas.List.Elements.{All-more}
use Rattle.centre_past.specs.Legal.{Known}
use Rattle.office.specs.Shuffles.{HasItsEntries}
use Rattle.office.proofs.settling.mismatch.Goals as goal

pub loop-desk-preserved : goal.loop-desk-preserved
loop-desk-preserved g c =
    let same : c.loop-desk.centre.known ≡ c.args.centre.now.known = c.loop-desk.invariant.0 in
    let is : IsTrue c.has_its_entries.result = c.if-not-has_its_entries.false in
    let has : HasItsEntries c.args.centre.now.known.folded c.args.centre.now.known.journal c.desk-item.result = subst (λ (k : Known). HasItsEntries k.folded k.journal c.desk-item.result) same (c.has_its_entries.ensures.has.0 is) in
    let here : HasItsEntries c.args.centre.now.known.folded c.args.centre.now.known.journal (get_or c.args.desks.now c.loop-desk.desk-index c.desk-item.result) = subst (HasItsEntries c.args.centre.now.known.folded c.args.centre.now.known.journal) c.desk-item.is has in
    (c.has_its_entries.ensures.unchanged ∙ same, All-more (HasItsEntries c.args.centre.now.known.folded c.args.centre.now.known.journal) c.args.desks.now c.loop-desk.desk-index c.desk-item.result c.loop-desk-test.true c.loop-desk.invariant.1 here)

pub returns-clause-none : goal.returns-clause-none
returns-clause-none g c =
    λ none. subst (All (HasItsEntries c.args.centre.now.known.folded c.args.centre.now.known.journal)) (take_all c.loop-desk.desk-index c.args.desks.now c.loop-desk-test.false) c.loop-desk.invariant.1
