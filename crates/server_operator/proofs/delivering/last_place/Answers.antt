use Rattle.server_operator.proofs.BatchLemmas.{last_is_above}
use Rattle.server_operator.proofs.delivering.last_place.Goals as goal

-- the latest receipt has the last place
pub returns : goal.returns
returns g c = last_is_above c.args.desk.now.receipts c.args.desk.now.released c.latest.result.now c.latest.ensures c.tell_soundness.ensures.places
