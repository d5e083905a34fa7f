-- What a board reads of a line as it is kept.
use Rattle.mirror.specs.Line.{state_of}
use Rattle.mirror.specs.Seen.{seen}
use Rattle.coverage_board.specs.Standings.{Stand}
use Rattle.coverage_board.specs.declared.stand.Stand.{Stand as Kept}

-- how a kept line stands
abbrev pub stand_of : Kept → Stand
stand_of t = record {
  seen = seen t.sight;
  counts = λ s. (state_of t.sight.line s).count;
  areas = t.areas;
  here = t.here;
  active = t.active;
}
