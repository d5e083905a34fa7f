-- What is wanted on air: each cell at its BSC, with the current version of each active warning one of whose areas
-- covers it.
use Rattle.std.specs.Prelude.{ℕ, Bool, ◌&&◌, Option, None, nat_eq, if◌then◌else◌}
use Rattle.std.specs.List.{list_any}
use Rattle.cell_register.specs.Register.{is_place}
use Rattle.common.specs.declared.cell.Cell.{Cell}
use Rattle.warning_book.specs.Book.{current_of}
use Rattle.warning_book.specs.declared.warning.Warning.{Warning}
use Rattle.centre_events.specs.Cover.{is_covered}
use Rattle.centre_events.specs.Past.{Past}
use Rattle.centre_events.specs.Places.{place}
use Rattle.mirror.specs.Seen.{is_the}
use Rattle.centre_events.specs.Warnings.{warnings_of}

-- the warning is wanted in the cell at the BSC
abbrev pub wants : Past → ℕ → Warning → Cell → Bool
wants past b w c = w.active && (is_place (place past c) b && is_covered past w.areas c)

-- the serial number that is wanted there: that of its current version
abbrev pub wanted : Past → ℕ → Warning → Cell → Option ℕ
wanted past b w c = if wants past b w c then current_of w else None

-- the message of that identifier and serial number is planned there
abbrev pub planned : Past → ℕ → Cell → ℕ → ℕ → Bool
planned past b c m s = list_any (λ w. nat_eq w.message_id m && is_the (wanted past b w c) s) (warnings_of past)
