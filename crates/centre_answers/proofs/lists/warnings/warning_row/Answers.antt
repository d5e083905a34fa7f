use Rattle.std.proofs.Common.{◌≡◌, ◌∙◌, ap}
use Rattle.centre_past.specs.Numbers.{total}
use Rattle.coverage_board.specs.Board.{total_of}
use Rattle.centre_answers.proofs.BoardLemmas.{board_is}
use Rattle.centre_answers.proofs.lists.warnings.warning_row.Goals as goal

pub returns : goal.returns
returns c = λ past tells found.
    let areas : c.in_ok-areas.areas ≡ c.args.w.now.areas = c.in_ok-areas.ensures ∙ c.areas.ensures in
    let numbers : c.total.result ≡ total past c.args.w.now = c.total.ensures ∙ ap (total_of c.args.tables.now.board) c.number-2.ensures ∙ board_is tells.settings past tells.legal c.args.tables.now tells.is c.args.w.now.number c.args.w.now found in
    λ i. record {
      number = c.number.ensures i;
      message_id = c.message_id.ensures i;
      serial = c.serial.ensures i;
      is_active = c.is_active.ensures i;
      kind = c.kind.ensures i;
      areas = areas i;
      numbers = numbers i;
    }
