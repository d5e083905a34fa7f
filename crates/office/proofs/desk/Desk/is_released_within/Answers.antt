use Rattle.std.proofs.Common.{◌≤◌, ◌↔◌, take, All, IsTrue, nat_le, subst}
use Rattle.office.specs.Desks.{DeskState}
use Rattle.office.specs.declared.receipt.Receipt.{Receipt}
use Rattle.office.proofs.DeskLemmas.{released_iff}
use Rattle.office.proofs.desk.Desk.is_released_within.Goals as goal

pub returns : goal.returns
returns g c =
    subst (λ (v : DeskState). IsTrue (nat_le c.self.inside.released_last c.args.place) ↔ All (λ (r : Receipt). r.place ≤ c.args.place) (take v.released v.receipts)) c.self.view_is
    (released_iff c.self.inside.last c.self.inside.share.parts c.self.inside.share.amount c.self.inside.released_count c.self.inside.released_last c.args.place c.self.inside.released.items c.self.inside.receipts.items c.self.invariant.0 c.self.invariant.1)
