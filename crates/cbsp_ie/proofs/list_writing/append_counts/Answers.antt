use Rattle.cbsp_ie.proofs.ListLemmas.{on_err, take_shorter}
use Rattle.cbsp_ie.proofs.list_writing.append_counts.Goals as goal

pub returns-in_err-write-clause-err : goal.returns-in_err-write-clause-err
returns-in_err-write-clause-err c =
    on_err c.from_residual.result
    (take_shorter c.write.new.out.items c.args.out.now.items _ (rw c.loop-entry.invariant at c.in_err-write.ensures.err))
