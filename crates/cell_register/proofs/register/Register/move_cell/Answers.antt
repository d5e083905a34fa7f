use Rattle.std.proofs.Common.{◌≡◌, true, rules, None}
use Rattle.std.proofs.lemmas.Bool.{not-false}
use Rattle.common.specs.CheckLaws.{none_holds}
use Rattle.common.specs.Checks.{first_refusal}
use Rattle.cell_register.specs.Register.{State, has_bsc, move_cell_checks}
use Rattle.cell_register.specs.SoundLaws.{moved_sound}
use Rattle.cell_register.proofs.register.Register.move_cell.Goals as goal

pub invariant_of-self : goal.invariant_of-self
invariant_of-self c =
    let r : State = record { bscs = c.self.inside.bscs.items; cells = c.self.inside.places } in
    let none : first_refusal (move_cell_checks r c.args.c c.args.to) ≡ None = search rules in
    let there : has_bsc r c.args.to ≡ true = not-false (has_bsc r c.args.to) (none_holds (move_cell_checks r c.args.c c.args.to) none).0 in
    rw c.set.ensures (moved_sound c.args.c c.args.to r c.self.invariant there)
