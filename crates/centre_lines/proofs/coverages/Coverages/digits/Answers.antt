use Rattle.std.proofs.Common.{◌≡◌, ◌∙◌, IfSome, ap, subst, sym}
use Rattle.areas.specs.Areas.{selects}
use Rattle.common.specs.declared.cell.Cell.{Cell}
use Rattle.coverage_board.specs.AreaSets.{mask}
use Rattle.coverage_board.specs.declared.area_bits.AreaBits.{AreaBits}
use Rattle.centre_lines.proofs.coverages.Coverages.digits.Goals as goal
use Rattle.centre_lines.proofs.coverages.Coverages.digits.Goals.{in-Some, in-None}

pub returns-clause-digits : goal.returns-clause-digits
returns-clause-digits c =
    elim c.match-self.branch [
      | in-Some w ↦
          (let known : (d : Cell) → d.lac ≡ c.known_of-self-inside.result.lac → w.in-Some.digits.bits ≡ mask (λ s. selects s d) c.deref.result.now = subst (λ o. IfSome o (λ (n : AreaBits). (d : Cell) → d.lac ≡ c.known_of-self-inside.result.lac → n.bits ≡ mask (λ s. selects s d) c.deref.result.now)) w.in-Some.is c.known_of-self-inside.ensures.digits in
          rw w.result-is (known c.args.c (sym c.known_of-self-inside.ensures.lac) ∙ ap (mask (λ s. selects s c.args.c)) (c.deref.ensures.value ∙ c.self.view_is)))
      | in-None w ↦
          rw w.result-is (subst (λ xs. w.digits_of.result.bits ≡ mask (λ s. selects s c.args.c) xs) (w.deref-in-None.ensures.value ∙ c.self.view_is) w.digits_of.ensures)
    ]
