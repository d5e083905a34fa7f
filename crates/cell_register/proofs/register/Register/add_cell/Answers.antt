use Rattle.std.proofs.Common.{◌≡◌, ◌<◌, true, length, rules, None}
use Rattle.std.proofs.lemmas.Bool.{leb-false, not-false}
use Rattle.common.specs.CheckLaws.{none_holds}
use Rattle.common.specs.Checks.{first_refusal}
use Rattle.cell_register.specs.Register.{State, has_bsc, add_cell_checks}
use Rattle.cell_register.specs.SoundLaws.{with_cell_sound}
use Rattle.cell_register.proofs.register.Register.add_cell.Goals as goal

pub invariant_of-self-2 : goal.invariant_of-self-2
invariant_of-self-2 c =
    let r : State = record { bscs = c.self.inside.bscs.items; cells = c.self.inside.places } in
    let none : first_refusal (add_cell_checks r c.args.c c.args.at) ≡ None = search rules in
    let holds = none_holds (add_cell_checks r c.args.c c.args.at) none in
    let there : has_bsc r c.args.at ≡ true = not-false (has_bsc r c.args.at) holds.0 in
    let room : length r.cells < 65536 = leb-false 65536 (length r.cells) holds.1.1.0 in
    rw c.in_ok-insert.ensures.inserted (with_cell_sound c.args.c c.args.at r c.self.invariant there holds.1.0 room)
