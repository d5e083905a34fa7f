use Rattle.std.proofs.Common.{below_more}
use Rattle.line_faults.proofs.finding.first_wrong.Goals as goal

pub loop-place-preserved : goal.loop-place-preserved
loop-place-preserved c = below_more _ _ c.loop-place.invariant (λ in_form in_words. c.is_wrong.ensures.fits c.if-is_wrong.false in_words)
