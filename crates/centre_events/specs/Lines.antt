-- The lines of a past: what is read of a BSC, a cell and a warning.
use Rattle.std.specs.Prelude.{ℕ}
use Rattle.std.specs.List.{filter}
use Rattle.cell_register.specs.Register.{is_place}
use Rattle.common.specs.declared.cell.Cell.{Cell}
use Rattle.warning_book.specs.Book.{kind_of}
use Rattle.warning_book.specs.declared.warning.Warning.{Warning}
use Rattle.centre_events.specs.Counts.{count}
use Rattle.centre_events.specs.Cover.{covers}
use Rattle.centre_events.specs.Down.{is_down}
use Rattle.centre_events.specs.Past.{Past}
use Rattle.centre_events.specs.Places.{place}
use Rattle.centre_events.specs.Plan.{wanted}
use Rattle.centre_events.specs.Presence.{presence, is_held}
use Rattle.mirror.specs.Seen.{Seen}
use Rattle.coverage_board.specs.Standings.{Stand}
use Rattle.centre_events.specs.Warnings.{serials}

-- what is read of a line
abbrev pub seen : Past → ℕ → Warning → Cell → Seen
seen past b w c = record {
  presence = presence past b c w.message_id;
  is_held = is_held past b c w.message_id;
  message_id = w.message_id;
  versions = serials w;
  wanted = wanted past b w c;
  down = is_down past (kind_of w) b c;
}

-- what a board reads of it besides
abbrev pub stand : Past → ℕ → Warning → Cell → Stand
stand past b w c = record {
  seen = seen past b w c;
  counts = count past b c w.message_id;
  areas = filter (λ a. covers past a c) w.areas;
  here = is_place (place past c) b;
  active = w.active;
}
