use Rattle.std.proofs.Common.{◌≡◌, []}
use Rattle.framing.specs.Source.{counted}
use Rattle.link_worker.specs.Reports.{Reads}
use Rattle.link_worker.proofs.reading.read_side.Given as goal

-- all whole frames of the octets that were read are taken, and no read failed
abbrev pub invariant-loop-turn : goal.invariant-loop-turn
invariant-loop-turn g l = record {
  none : l.framer.frames ≡ [];
  reads : Reads l.link.bsc l.link.generation [] l.initial.desk l.desk (g.S.Source.remaining l.initial.reader) (g.S.Source.remaining l.reader) l.framer.rest;
  calls : g.S.Source.calls l.reader ≡ counted (g.S.Source.calls l.initial.reader) l._turn;
  unfailed : g.S.Source.failures l.reader ≡ g.S.Source.failures l.initial.reader;
}
