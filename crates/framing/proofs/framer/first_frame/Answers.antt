use Rattle.std.proofs.Common.{◌≤◌, length, arith}
use Rattle.framing.proofs.StreamLemmas.{whole_frame}
use Rattle.framing.proofs.framer.first_frame.Goals as goal

-- the octets behind the first four are as many as these announce
pub returns-clause-whole : goal.returns-clause-whole
returns-clause-whole c =
    let four : 4 ≤ length c.args.octets.now = omega arith in
    whole_frame _ _ _ _ _ four (λ i. omega (arith, c.type_inv.octets i)) c.announced_length-length.ensures c.split_at.ensures.back c.in_ok-body.ensures.cases
