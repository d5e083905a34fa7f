use Rattle.cbsp_messages.proofs.LengthLemmas.{short_body}
use Rattle.cbsp_messages.proofs.WrittenLemmas.{Spells-frame}
use Rattle.cbsp_messages.proofs.writing.write.Goals as goal

pub returns-clause-short : goal.returns-clause-short
returns-clause-short c = short_body c.args.message.now (rw (← c.of-parts.ensures) c.ranges-2.ensures) c.requires

pub returns-clause-spelled : goal.returns-clause-spelled
returns-clause-spelled c short =
    Spells-frame c.args.message.now c.frame_octets.result (rw (← c.of-parts.ensures) c.ranges-2.ensures) c.requires c.frame_octets.ensures short
