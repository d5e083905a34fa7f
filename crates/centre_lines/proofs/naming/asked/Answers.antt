use Rattle.std.proofs.Common.{◌≡◌, ◌++◌, ◌∷◌, [], ◌∙◌, true, if◌then◌else◌, get_or, ap, sym}
use Rattle.std.specs.Prelude.{find}
use Rattle.areas.specs.Areas.{areas_of}
use Rattle.common.specs.Order.{is_ascending}
use Rattle.coverage_plan.specs.Plan.{State}
use Rattle.warning_book.specs.Book as book
use Rattle.warning_book.specs.Book.{has_number, names_one_of, number_lt, warning_of}
use Rattle.warning_book.specs.declared.warning.Warning.{Warning}
use Rattle.warning_book.proofs.QuestionLemmas.{naming_one_of_more}
use Rattle.centre_lines.proofs.CoverageLemmas.{of_its_number}
use Rattle.centre_lines.proofs.naming.asked.Goals as goal

pub put_covering-requires : goal.put_covering-requires
put_covering-requires c =
    let w = c.warning-item.result in
    let ordered : is_ascending number_lt c.args.warnings.now ≡ true = ap (is_ascending number_lt) c.requires ∙ ap (λ (st : book.State). is_ascending number_lt st.warnings) (sym c.book.ensures) ∙ c.tell_soundness.ensures.ordered in
    of_its_number c.args.warnings.now c.loop-warning.warning-index w ordered c.loop-warning-test.true c.warning-item.is
    ∙ ap (find (has_number w.number)) c.requires
    ∙ ap (λ (p : State). warning_of p.book w.number) (sym c.loop-warning.invariant.same)

pub loop-warning-preserved : goal.loop-warning-preserved
loop-warning-preserved c =
    let i = c.loop-warning.warning-index in
    let w = c.warning-item.result in
    let covering = areas_of c.args.plan.now.areas c.args.c in
    let v = get_or c.args.warnings.now i w in
    record {
      found = c.in_ok-put_covering.ensures.put
          ∙ ap (λ (p : State). c.loop-warning.found.items ++ (if names_one_of (areas_of p.areas c.args.c) w then w.number ∷ [] else [])) c.loop-warning.invariant.same
          ∙ ap (λ (x : Warning). c.loop-warning.found.items ++ (if names_one_of covering x then x.number ∷ [] else [])) c.warning-item.is
          ∙ ap (λ ns. ns ++ (if names_one_of covering v then v.number ∷ [] else [])) c.loop-warning.invariant.found
          ∙ sym (naming_one_of_more covering c.args.warnings.now i w c.loop-warning-test.true);
      same = c.put_covering.ensures.same ∙ c.loop-warning.invariant.same;
    }
