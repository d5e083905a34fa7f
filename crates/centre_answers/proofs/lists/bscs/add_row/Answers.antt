use Rattle.std.proofs.Common.{◌≡◌, ◌∙◌, ◌++◌, ◌∷◌, [], ap, length}
use Rattle.std.specs.Option.{option_map}
use Rattle.cell_register.specs.Register.{cells_of}
use Rattle.centre_events.specs.InFlight.{in_flight}
use Rattle.centre_events.specs.Links.{is_up, last_link}
use Rattle.centre_events.specs.Pending.{all_actions}
use Rattle.centre_past.proofs.ListLemmas.{cells_listed}
use Rattle.centre_past.specs.Lists.{cells_at, flight_row}
use Rattle.centre_past.specs.declared.lists.bsc_row.BscRow.{BscRow}
use Rattle.centre_answers.proofs.QuestionLemmas.{pending_list}
use Rattle.centre_answers.proofs.lists.bscs.add_row.Goals as goal

pub returns : goal.returns
returns c = λ settings past legal kept is.
    let cells : length c.as_slice.result.now ≡ length (cells_at past c.args.b) = ap length (c.as_slice.ensures ∙ c.in_ok-cells.ensures ∙ ap (λ r. cells_of r c.args.b) c.register.ensures ∙ cells_listed past c.args.kept.now.plan.register c.args.b c.tell_soundness.ensures.registered kept.registered) in
    let up : c.is_up.result ≡ is_up past c.args.b = c.is_up.ensures ∙ kept.linked.ups c.args.b in
    let last : c.generation.result ≡ last_link past c.args.b = c.generation.ensures ∙ kept.linked.generations c.args.b in
    let flight : c.args.flight ≡ option_map flight_row (in_flight past c.args.b) = is ∙ ap (option_map flight_row) (kept.linked.flights c.args.b) in
    c.in_ok-push.ensures.items
    ∙ (λ i. c.args.rows.now.items ++ (let row : BscRow = record {
      bsc = c.args.b;
      cells = cells i;
      is_up = up i;
      last = last i;
      flight = flight i;
      pending = c.count.ensures (all_actions past c.args.b) (pending_list settings past legal c.args.kept.now.tables kept.tables c.args.b) i;
    } in row) ∷ [])
