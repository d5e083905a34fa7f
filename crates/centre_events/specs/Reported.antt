-- What keeps a stopped warning in the book: a key of it that a BSC has reported, or an order in flight. The same of one
-- key keeps its serial number from being taken again.
use Rattle.std.specs.Prelude.{ℕ, Bool, false, ◌&&◌, ◌||◌, not, Option, Some, None, nat_eq}
use Rattle.std.specs.List.{list_any}
use Rattle.common.specs.declared.cell.Cell.{Cell}
use Rattle.warning_book.specs.declared.warning.Warning.{Warning}
use Rattle.centre_events.specs.Effects.{replaces}
use Rattle.centre_events.specs.InFlight.{in_flight, id_of}
use Rattle.centre_events.specs.Links.{bscs}
use Rattle.centre_events.specs.Places.{cells}
use Rattle.centre_events.specs.Past.{Past}
use Rattle.centre_events.specs.Presence.{presence}
use Rattle.mirror.specs.Seen.{is_absent}
use Rattle.centre_events.specs.declared.in_flight.InFlight.{InFlight}
use Rattle.centre_events.specs.declared.in_flight.InFlight.TheVariants as flight

-- the version of that serial number is on air, or may be, in the cell at the BSC
abbrev pub is_present : Past → Warning → ℕ → Cell → ℕ → Bool
is_present past w b c s = not (is_absent (presence past b c w.message_id s))

-- a version of the warning is on air, or may be, in the cell at the BSC
abbrev pub is_reported_in : Past → Warning → ℕ → Cell → Bool
is_reported_in past w b c = list_any (λ v. is_present past w b c v.serial) w.versions

-- in one of the cells at the BSC
abbrev pub is_reported_at : Past → Warning → ℕ → Bool
is_reported_at past w b = list_any (is_reported_in past w b) (cells past)

-- anywhere
abbrev pub is_reported : Past → Warning → Bool
is_reported past w = list_any (is_reported_at past w) (bscs past)

-- it writes, replaces, kills or asks for the version of that serial number
abbrev pub names_serial : InFlight → ℕ → Bool
names_serial (flight.Order order) s = nat_eq order.serial s || replaces order.kind s
names_serial (flight.Query message_id serial cells) s = nat_eq serial s

-- what is in flight, if anything is, names the version of that message identifier and serial number
abbrev pub names_version : Option InFlight → ℕ → ℕ → Bool
names_version None m s = false
names_version (Some f) m s = nat_eq (id_of f) m && names_serial f s

-- it names a version of the warning
abbrev pub names_warning : InFlight → Warning → Bool
names_warning f w = nat_eq (id_of f) w.message_id && list_any (λ v. names_serial f v.serial) w.versions

-- what is in flight, if anything is, names a version of the warning
abbrev pub flight_names : Warning → Option InFlight → Bool
flight_names w None = false
flight_names w (Some f) = names_warning f w

-- what is in flight to some BSC names a version of the warning
abbrev pub is_in_flight : Past → Warning → Bool
is_in_flight past w = list_any (λ b. flight_names w (in_flight past b)) (bscs past)

-- The same of one version.

-- the version of that message identifier and serial number is on air, or may be, in the cell at the BSC
abbrev pub is_key_present : Past → ℕ → ℕ → ℕ → Cell → Bool
is_key_present past m s b c = not (is_absent (presence past b c m s))

-- in one of the cells at the BSC
abbrev pub is_key_reported_at : Past → ℕ → ℕ → ℕ → Bool
is_key_reported_at past m s b = list_any (is_key_present past m s b) (cells past)

-- anywhere
abbrev pub is_key_reported : Past → ℕ → ℕ → Bool
is_key_reported past m s = list_any (is_key_reported_at past m s) (bscs past)

-- what is in flight to some BSC names it
abbrev pub is_key_in_flight : Past → ℕ → ℕ → Bool
is_key_in_flight past m s = list_any (λ b. names_version (in_flight past b) m s) (bscs past)
