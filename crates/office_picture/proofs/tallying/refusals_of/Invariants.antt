use Rattle.std.proofs.Common.{◌≡◌, ◌++◌, drop, map}
use Rattle.office_picture.specs.Pictures.{refusal_tally}
use Rattle.office_picture.proofs.tallying.refusals_of.Given as goal

-- the counts so far, and those ahead, are all of them
abbrev pub invariant-loop-cause : goal.invariant-loop-cause
invariant-loop-cause l = l.tallies.items ++ map (refusal_tally l.counts) (drop l.cause-index l.causes) ≡ map (refusal_tally l.counts) l.causes
