-- Words and digits that stand in tables, in metrics and on the page.
use Rattle.std.specs.Prelude.{ℕ, Bool, true, false, ◌&&◌, not, List, [], ◌∷◌, Option, Some, None, codes, decimal, if◌then◌else◌}
use Rattle.std.specs.Int.{bytes_high_first}
use Rattle.std.specs.Option.{is_some}
use Rattle.hex.specs.Hex.{encode_upper}
use Rattle.centre_past.specs.declared.lists.flight_kind.FlightKind.{FlightKind}
use Rattle.centre_past.specs.declared.lists.flight_kind.FlightKind.TheVariants.{Write, Replace, Kill, Query}
use Rattle.status_figures.specs.declared.bsc_figures.BscFigures.{BscFigures}
use Rattle.warning_book.specs.declared.kind.Kind.{Kind}
use Rattle.warning_book.specs.declared.kind.Kind.TheVariants.{Cbs, Emergency}

-- the end of a line
abbrev pub newline : List ℕ
newline = 10 ∷ []

-- a message identifier or a serial number in four hexadecimal digits
unfoldable pub four_digits : ℕ → List ℕ
four_digits n = encode_upper (bytes_high_first 2 n)

-- a kind of warning
abbrev pub kind_name : Kind → List ℕ
kind_name Cbs = codes "cbs"
kind_name Emergency = codes "emergency"

-- whether a warning was stopped
abbrev pub state_name : Bool → List ℕ
state_name true = codes "active"
state_name false = codes "stopped"

-- whether a link is up
abbrev pub link_name : Bool → List ℕ
link_name true = codes "up"
link_name false = codes "down"

-- the link of a BSC: over one that is up a RESET may be out
abbrev pub link_word : BscFigures → List ℕ
link_word b = if is_some b.reset then codes "reset" else link_name b.row.is_up

-- whether orders go out over the link of a BSC
abbrev pub is_in_service : BscFigures → Bool
is_in_service b = b.row.is_up && not (is_some b.reset)

-- what kind of request is in flight
abbrev pub flight_name : FlightKind → List ℕ
flight_name Write = codes "write"
flight_name Replace = codes "replace"
flight_name Kill = codes "kill"
flight_name Query = codes "query"
