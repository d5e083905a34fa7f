use Rattle.std.proofs.Common.{◌≤◌, ◌++◌, All, subst}
use Rattle.office.specs.Desks.{DeskState}
use Rattle.office.specs.Receipts.{last_place}
use Rattle.office.specs.declared.receipt.Receipt.{Receipt}
use Rattle.office.proofs.DeskLemmas.{desk_places}
use Rattle.office.proofs.desk.Desk.tell_soundness.Goals as goal

pub returns-clause-places : goal.returns-clause-places
returns-clause-places g c =
    let here : All (λ (r : Receipt). r.place ≤ last_place (c.self.inside.released.items ++ c.self.inside.receipts.items)) (c.self.inside.released.items ++ c.self.inside.receipts.items) = desk_places c.self.inside.last c.self.inside.share.parts c.self.inside.share.amount (c.self.inside.released.items ++ c.self.inside.receipts.items) c.self.invariant.0 in
    subst (λ (v : DeskState). All (λ (r : Receipt). r.place ≤ last_place v.receipts) v.receipts) c.self.view_is here
