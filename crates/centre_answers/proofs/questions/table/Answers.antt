use Rattle.std.proofs.Common.{◌∙◌, ap}
use Rattle.common.specs.Sorting.{sorted_by}
use Rattle.centre_answers.specs.Asked.{Tells}
use Rattle.centre_past.specs.Table.{key_lt, keys_over}
use Rattle.centre_past.proofs.ReadLemmas.{as_itself}
use Rattle.centre_answers.proofs.TableLemmas.{table_known}
use Rattle.centre_answers.proofs.questions.table.Goals as goal

pub returns-clause-keys : goal.returns-clause-keys
returns-clause-keys c = λ settings past legal same is known.
    let tells : Tells past c.args.tables.now = record { settings = settings; legal = legal; is = is } in
    c.from_vec.ensures
    ∙ c.in_ok-in_order.ensures
    ∙ ap (sorted_by key_lt) c.as_slice-3.ensures.value
    ∙ ap (sorted_by key_lt) (c.in_ok-keys.ensures.keys past c.args.tables.now tells (as_itself c.args.tables.now) (c.as_slice.ensures ∙ ap (λ st. st.warnings) same) ∙ ap (keys_over past c.args.b) c.as_slice-2.ensures)
    ∙ table_known settings past legal c.args.b c.in_ok-cells.cells c.in_ok-cells.ensures.order (λ d. c.in_ok-cells.ensures.known d ∙ known.known c.args.b d)
