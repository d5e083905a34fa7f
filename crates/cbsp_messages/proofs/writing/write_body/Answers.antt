use Rattle.cbsp_messages.proofs.WritingLemmas.{PartsFit-Fits}
use Rattle.cbsp_messages.proofs.writing.write_body.Goals as goal

pub write_part-requires : goal.write_part-requires
write_part-requires c = rw c.of-parts.ensures (PartsFit-Fits c.args.message.now c.requires)
