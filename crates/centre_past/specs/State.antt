-- What is read of one line, from what a centre keeps beside its journal.
use Rattle.std.specs.Prelude.{◌≡◌, ℕ, Bool, ◌&&◌, not, List, Option, Some, None, length, nat_eq, if◌then◌else◌}
use Rattle.std.specs.List.{filter, list_any}
use Rattle.areas.specs.Areas as kept
use Rattle.areas.specs.declared.area.Area.{Area}
use Rattle.cell_register.specs.Register as register
use Rattle.cell_register.specs.Register.{place_in, is_place}
use Rattle.common.specs.declared.cell.Cell.{Cell}
use Rattle.kept_tables.specs.Facts.{no_facts}
use Rattle.kept_tables.specs.declared.line_facts.LineFacts.{LineFacts}
use Rattle.mirror.specs.declared.line.Line.{Line}
use Rattle.warning_book.specs.Book.{current_of}
use Rattle.warning_book.specs.declared.warning.Warning.{Warning}
use Rattle.centre_events.specs.Warnings.{serials}

-- the warning is wanted in the cell at the BSC
abbrev pub wants_in : register.State → List Area → ℕ → Warning → Cell → Bool
wants_in r l b w c = w.active && (is_place (place_in r c) b && list_any (λ a. kept.covers l a c) w.areas)

-- the serial number that is wanted there
abbrev pub wanted_in : register.State → List Area → ℕ → Warning → Cell → Option ℕ
wanted_in r l b w c = if wants_in r l b w c then current_of w else None

-- what is read of the line of a warning, if the book has it, in a cell that is down or not, where these areas cover the cell
abbrev pub covered_facts : register.State → Bool → ℕ → Cell → Line → List (List ℕ) → Option Warning → LineFacts
covered_facts r down b c line names None = no_facts down (is_place (place_in r c) b)
covered_facts r down b c line names (Some w) = record {
  line = line;
  message_id = w.message_id;
  versions = serials w;
  wanted = if w.active && (is_place (place_in r c) b && not (nat_eq (length names) 0)) then current_of w else None;
  down = down;
  areas = names;
  here = is_place (place_in r c) b;
  active = w.active;
}

-- these are those of the warning's areas that cover the cell, if the book has the warning
abbrev pub AreCovering : List Area → Cell → List (List ℕ) → Option Warning → Type 0
AreCovering l c names None = Unit {0}
AreCovering l c names (Some w) = names ≡ filter (λ a. kept.covers l a c) w.areas

-- what is read of the line of a warning, if the book has it, in a cell that is down or not
abbrev pub facts_from : register.State → List Area → Bool → ℕ → Cell → Line → Option Warning → LineFacts
facts_from r l down b c line None = no_facts down (is_place (place_in r c) b)
facts_from r l down b c line (Some w) = record {
  line = line;
  message_id = w.message_id;
  versions = serials w;
  wanted = wanted_in r l b w c;
  down = down;
  areas = filter (λ a. kept.covers l a c) w.areas;
  here = is_place (place_in r c) b;
  active = w.active;
}
