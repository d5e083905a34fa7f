use Rattle.std.proofs.Common.{rules, ◌≡◌, length, arith}
use Rattle.office.proofs.DeskLemmas.{desk_count}
use Rattle.office.proofs.desk.Desk.len.Goals as goal

pub overflow_add-result : goal.overflow_add-result
overflow_add-result g c =
    let few = desk_count c.self.inside.last c.self.inside.share.parts c.self.inside.share.amount c.self.inside.released.items c.self.inside.receipts.items c.self.invariant.0 in
    let gone : c.self.inside.released_count ≡ length c.self.inside.released.items = c.self.invariant.1.counted in
    let held : c.len.result ≡ length c.self.inside.receipts.items = search rules in
    search (rules, arith, few, gone, held)
