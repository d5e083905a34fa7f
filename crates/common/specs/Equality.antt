-- That each test of equality answers true of equal values, and of no others.
use Rattle.std.specs.Prelude.{◌≡◌, Bool, true, false, ◌&&◌, List, nat_eq}
use Rattle.std.proofs.Common.{refl}
use Rattle.std.specs.Bool.{Decides}
use Rattle.std.specs.Cmp.{unsigned_Decides}
use Rattle.std.specs.Cmp.Lexicographic.{pointwise, pointwise_decides}
use Rattle.common.specs.Cell.{cell_eq}
use Rattle.common.specs.declared.cell.Cell.{Cell}

-- two tests joined decide two facts
pub both : (b c : Bool) {P Q : Type 0} → Decides b P → Decides c Q → Decides (b && c) (P × Q)
both true c p q = (λ h. (p.0 refl, q.0 h), λ e. q.1 e.1)
both false c p q = (λ h. absurd (let e : false ≡ true = h in cc), λ e. p.1 e.0)

-- a test decides what its fact amounts to
pub amounts : {b : Bool} {P Q : Type 0} → Decides b P → (P → Q) → (Q → P) → Decides b Q
amounts d there back = (λ h. there (d.0 h), λ q. d.1 (back q))

-- an answer that is the test's decides what the test does
pub answered : {r b : Bool} {P : Type 0} → r ≡ b → Decides b P → Decides r P
answered e d = rw e d

-- the test of two cells is true where they are one cell, and nowhere else
pub cell_decides : (a b : Cell) → Decides (cell_eq a b) (a ≡ b)
cell_decides a b =
    amounts (both (nat_eq a.lac b.lac) (nat_eq a.ci b.ci) (unsigned_Decides a.lac b.lac) (unsigned_Decides a.ci b.ci))
    (λ e. λ i. record { lac = e.0 i; ci = e.1 i }) (λ e. (λ i. (e i).lac, λ i. (e i).ci))

-- the test of two lists of cells is true where they are one list, and nowhere else
pub cells_decide : (a b : List Cell) → Decides (pointwise cell_eq a b) (a ≡ b)
cells_decide = pointwise_decides cell_decides
