use Rattle.std.proofs.Common.{◌≡◌, ◌≤◌, length, rules}
use Rattle.std.specs.List.{position_or_len}
use Rattle.order_maker.specs.ByBsc.{is_bsc}
use Rattle.order_maker.proofs.ByBscLemmas.{absent_past, none_taken}
use Rattle.order_maker.proofs.pending.Pending.take_out.Goals as goal

pub returns-else-place-len : goal.returns-else-place-len
returns-else-place-len c =
    let bscs = c.self.inside.bscs.items in
    let place : c.place_of-place.result ≡ position_or_len (is_bsc c.args.b) bscs = search rules in
    let past : length bscs ≤ c.place_of-place.result = search rules in
    rw (← c.self.view_is) (none_taken bscs c.args.b c.args.a c.self.invariant (absent_past c.args.b bscs c.place_of-place.result place past))
