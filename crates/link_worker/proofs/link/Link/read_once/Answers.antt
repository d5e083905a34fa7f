use Rattle.std.proofs.Common.{◌<◌, length, arith}
use Rattle.std.proofs.KnownBytes.{Consumes-kept, Consumes-nil}
use Rattle.link_worker.proofs.ReportLemmas.{EndsAt-stream, Ends-none, read_end, stream_open}
use Rattle.link_worker.specs.declared.end.End.TheVariants as end
use Rattle.link_worker.proofs.link.Link.read_once.Goals as goal

pub returns-in-Ok-eq0-clause-ended : goal.returns-in-Ok-eq0-clause-ended
returns-in-Ok-eq0-clause-ended g c =
    let room : 0 < length c.read.new.buffer = omega arith in
    let done = read_end _ _ c.in-Ok-eq0.field-0 c.read.new.buffer c.in-Ok-eq0.ensures.octets c.in-Ok-eq0.field-0-test room in
    rw c.end_of_stream.ensures (Ends-none _ _ _ _ _ _ _ done.0 (EndsAt-stream _ _ _ _ _ c.requires.partial done.1) (stream_open _ c.args.framer.now.rest))

pub returns-in-Err-clause-ended : goal.returns-in-Err-clause-ended
returns-in-Err-clause-ended g c = Ends-none _ _ _ _ _ _ end.ReadFault (Consumes-kept _ _ _ _ (Consumes-nil _) c.in-Err.ensures.octets) c.requires.partial tt

pub returns-in-Ok-eq0-clause-cut : goal.returns-in-Ok-eq0-clause-cut
returns-in-Ok-eq0-clause-cut g c = rw c.end_of_stream.ensures (stream_open _ c.args.framer.now.rest)
