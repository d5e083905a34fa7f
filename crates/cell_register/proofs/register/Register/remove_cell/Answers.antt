use Rattle.cell_register.specs.SoundLaws.{without_cell_sound}
use Rattle.cell_register.proofs.register.Register.remove_cell.Goals as goal

pub invariant_of-self : goal.invariant_of-self
invariant_of-self c = rw c.remove.ensures (without_cell_sound c.args.c _ c.self.invariant)
