use Rattle.std.proofs.Common.{◌≡◌, ◌≤◌, length, rules}
use Rattle.std.specs.List.{position_or_len}
use Rattle.order_maker.specs.ByBsc.{is_bsc}
use Rattle.order_maker.proofs.ByBscLemmas.{absent_past}
use Rattle.order_maker.proofs.pending.Pending.put.Goals as goal

pub put_first-requires-clause-absent : goal.put_first-requires-clause-absent
put_first-requires-clause-absent c =
    let bscs = c.self.inside.bscs.items in
    let place : c.place_of-place.result ≡ position_or_len (is_bsc c.args.b) bscs = search rules in
    let past : length bscs ≤ c.place_of-place.result = search rules in
    absent_past c.args.b bscs c.place_of-place.result place past
