use Rattle.std.proofs.Common.{◌≡◌, ◌<◌, length, rules, None}
use Rattle.std.proofs.lemmas.Bool.{leb-false}
use Rattle.common.specs.CheckLaws.{none_holds}
use Rattle.common.specs.Checks.{first_refusal}
use Rattle.cell_register.specs.Register.{State, add_bsc_checks}
use Rattle.cell_register.specs.SoundLaws.{with_bsc_sound}
use Rattle.cell_register.proofs.register.Register.add_bsc.Goals as goal

pub invariant_of-self-2 : goal.invariant_of-self-2
invariant_of-self-2 c =
    let r : State = record { bscs = c.self.inside.bscs.items; cells = c.self.inside.places } in
    let none : first_refusal (add_bsc_checks r c.args.b) ≡ None = search rules in
    let holds = none_holds (add_bsc_checks r c.args.b) none in
    let room : length r.bscs < 256 = leb-false 256 (length r.bscs) holds.1.0 in
    rw c.in_ok-insert_in_order.ensures.inserted (with_bsc_sound c.args.b r c.self.invariant holds.0 room)
