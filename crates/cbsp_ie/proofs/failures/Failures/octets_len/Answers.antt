use Rattle.std.proofs.Common.{arith}
use Rattle.cbsp_ie.proofs.FailureListLemmas.{more_failures, size_of-le}
use Rattle.cbsp_ie.proofs.failures.Failures.octets_len.Goals as goal

pub loop-entry-preserved : goal.loop-entry-preserved
loop-entry-preserved c =
    let most = size_of-le c.form.result in (
      rw (c.size.ensures, c.form.ensures) (more_failures c.as_slice-entries.result.now c.loop-entry.entry-index c.loop-entry.octets _ (rw c.as_slice-entries.ensures.value c.as_slice-entries.ensures.ranges) c.loop-entry-test.true c.loop-entry.invariant.0),
      omega (arith, most, c.size.ensures, c.loop-entry.invariant.1),
    )
