use Rattle.std.proofs.Common.{◌≡◌, rules, None}
use Rattle.common.specs.CheckLaws.{none_holds}
use Rattle.common.specs.Checks.{first_refusal}
use Rattle.cell_register.specs.Register.{State, remove_bsc_checks}
use Rattle.cell_register.specs.SoundLaws.{without_bsc_sound}
use Rattle.cell_register.proofs.register.Register.remove_bsc.Goals as goal

pub invariant_of-self : goal.invariant_of-self
invariant_of-self c =
    let r : State = record { bscs = c.self.inside.bscs.items; cells = c.self.inside.places } in
    let none : first_refusal (remove_bsc_checks r c.args.b) ≡ None = search rules in
    rw c.remove.ensures (without_bsc_sound c.args.b r c.self.invariant (none_holds (remove_bsc_checks r c.args.b) none).1.0)
