-- What a past says of every line, as it is read of what a centre keeps.
use Rattle.std.specs.Prelude.{ℕ, Option, Some, None}
use Rattle.std.specs.List.{filter}
use Rattle.cell_register.specs.Register.{is_place}
use Rattle.common.specs.declared.cell.Cell.{Cell}
use Rattle.kept_tables.specs.Facts.{no_facts}
use Rattle.kept_tables.specs.View.{View}
use Rattle.kept_tables.specs.declared.line_facts.LineFacts.{LineFacts}
use Rattle.warning_book.specs.Book.{kind_of, warning_of}
use Rattle.warning_book.specs.declared.kind.Kind.TheVariants as kind
use Rattle.warning_book.specs.declared.warning.Warning.{Warning}
use Rattle.centre_events.specs.Cover.{covers}
use Rattle.centre_events.specs.Down.{is_down}
use Rattle.centre_events.specs.Facts.{line_of}
use Rattle.centre_events.specs.Past.{Past}
use Rattle.centre_events.specs.Places.{place}
use Rattle.centre_events.specs.Plan.{wanted}
use Rattle.centre_events.specs.Warnings.{book_of, serials}

-- what it says of the line of a warning, if the book has it
abbrev pub facts_of : Past → ℕ → Cell → Option Warning → LineFacts
facts_of past b c None = no_facts (is_down past kind.Cbs b c) (is_place (place past c) b)
facts_of past b c (Some w) = record {
  line = line_of past b c w;
  message_id = w.message_id;
  versions = serials w;
  wanted = wanted past b w c;
  down = is_down past (kind_of w) b c;
  areas = filter (λ a. covers past a c) w.areas;
  here = is_place (place past c) b;
  active = w.active;
}

-- what it says of every line
abbrev pub facts : Past → View
facts past k = facts_of past k.bsc k.cell (warning_of (book_of past) k.warning)
