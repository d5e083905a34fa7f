use Rattle.std.proofs.Common.{rules, ◌<◌, ◌≤◌, ◌++◌, refl, arith, sym, subst}
use Rattle.office.specs.Desks.{DeskState}
use Rattle.office.specs.Receipts.{last_place}
use Rattle.office.proofs.DeskLemmas.{desk_kept}
use Rattle.office.proofs.desk.Desk.keep.Goals as goal

pub invariant_of-self : goal.invariant_of-self
invariant_of-self g c =
    let later : last_place (c.self.inside.released.items ++ c.self.inside.receipts.items) < c.args.place = subst (λ (v : DeskState). last_place v.receipts < c.args.place) (sym c.self.view_is) c.requires.later in
    let fits : c.args.place ≤ 18446744073709551615 = search (rules, arith, c.ranges.place.fits) in
    (desk_kept c.self.inside.last c.args.place c.self.inside.released.items c.self.inside.receipts.items c.push_reserved.new.self.items c.self.inside.share.parts c.add.new.share.parts c.self.inside.share.amount c.add.new.share.amount (record { place = c.args.place; event = c.args.event; answer = c.args.answer }) c.self.invariant.0 c.push_reserved.ensures.items c.add.ensures.parts c.add.ensures.amount refl fits later, c.self.invariant.1)
