use Rattle.std.proofs.Common.{◌≡◌}
use Rattle.link_worker.specs.Orders.{Writes}
use Rattle.link_worker.proofs.writing.write_side.Given as goal

-- the frames of the receipts that came are written, and no write failed
abbrev pub invariant-loop : goal.invariant-loop
invariant-loop g l = record {
  can : (goal.iterator-loop g).can_next l.iterator';
  finite : (goal.iterator-loop g).is_finite l.iterator';
  writes : Writes l.link.bsc l.link.generation l.initial.desk l.desk (g.W.Sink.written l.initial.writer) (g.W.Sink.written l.writer);
  fine : g.W.Sink.failures l.writer ≡ g.W.Sink.failures l.initial.writer;
}
