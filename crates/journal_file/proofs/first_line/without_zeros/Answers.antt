use Rattle.std.proofs.Common.{suc, arith}
use Rattle.journal_file.proofs.FirstLemmas.{zeros_more}
use Rattle.journal_file.proofs.first_line.without_zeros.Goals as goal

pub loop-count-preserved : goal.loop-count-preserved
loop-count-preserved c =
    let zeros = c.loop-count.invariant.zeros in
    record {
      fits = omega arith;
      zeros = (suc zeros.0, zeros_more c.args.octets.now c.loop-count.count zeros.0 (omega arith) c.loop-count.invariant.fits c.if-octets-count-ne0.false zeros.1);
    }
