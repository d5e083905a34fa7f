use Rattle.std.proofs.Common.{◌≡◌}
use Rattle.cbsp_ie.specs.declared.form.Form.TheVariants.{Ci}
use Rattle.tests_low.proofs.message_tests.cell_identities.Given as goal

-- the list keeps its form
abbrev pub invariant-loop-ci : goal.invariant-loop-ci
invariant-loop-ci l = l.cells.form ≡ Ci
