use Rattle.std.proofs.Common.{◌≡◌, ◌<◌, Some, List, nat_eq, true, length, ap, sym, subst, ◌∙◌}
use Rattle.std.specs.List.{slice_index_or}
use Rattle.warning_book.specs.Book.{warning_of}
use Rattle.centre_lines.specs.Found.{AreFound, Found, IsOf}
use Rattle.centre_lines.proofs.CoverageLemmas.{areas_in_book, found_more, found_there}
use Rattle.centre_lines.proofs.found_plan.place_in.Goals as goal

pub returns-in-Some-clause-place : goal.returns-in-Some-clause-place
returns-in-Some-clause-place c =
    found_there c.args.plan.now.areas c.args.plan.now.book c.args.n c.args.w.now c.requires.there c.args.found.now.items c.in-Some.place c.requires.found
    (subst (λ (xs : List Found). c.in-Some.place < length xs) c.deref.ensures.value c.in-Some.ensures.bound)
    (subst (λ (xs : List Found). (d : Found) → nat_eq c.args.n (slice_index_or xs c.in-Some.place d).warning ≡ true) c.deref.ensures.value c.in-Some.ensures.found)

pub of-requires : goal.of-requires
of-requires c = areas_in_book c.args.plan.now.book c.args.n c.args.w.now c.requires.there (rw (c.book.ensures) at c.tell_soundness.ensures.areas)

pub returns-clause-found : goal.returns-clause-found
returns-clause-found c =
    let l = c.args.plan.now.areas in
    let st = c.args.plan.now.book in
    let is : Some c.args.w.now ≡ warning_of st c.in_ok-of.field-0.warning = c.requires.there ∙ ap (warning_of st) (sym c.in_ok-of.ensures.number) in
    subst (AreFound l st) (sym c.in_ok-push.ensures.items)
    (found_more l st c.args.found.now.items c.in_ok-of.field-0 c.requires.found (subst (λ o. IsOf l o c.in_ok-of.field-0) is (rw (c.areas.ensures) at c.in_ok-of.ensures.found)))
