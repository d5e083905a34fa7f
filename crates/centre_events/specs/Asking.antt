-- Queries: in which cells a BSC is asked how often a warning was broadcast (TS 48.049, 8.1.3).
use Rattle.std.specs.Prelude.{ℕ, Bool, ◌&&◌, List, [], ◌∷◌, Option, Some, None, Result, Ok, Err, take}
use Rattle.std.specs.List.{filter}
use Rattle.common.specs.Cell.{cell_lt}
use Rattle.common.specs.Sorting.{sorted_by}
use Rattle.common.specs.declared.cell.Cell.{Cell}
use Rattle.mirror.specs.OnAir.{is_after}
use Rattle.mirror.specs.Seen.{is_on_air}
use Rattle.order_maker.specs.Grouping.{most_cells}
use Rattle.centre_events.specs.OrderMessage.{query_message}
use Rattle.warning_book.specs.Book.{current_of, kind_of}
use Rattle.warning_book.specs.declared.kind.Kind.{Kind}
use Rattle.warning_book.specs.declared.kind.Kind.TheVariants as kind
use Rattle.warning_book.specs.declared.warning.Warning.{Warning}
use Rattle.centre_events.specs.Past.{Past}
use Rattle.centre_events.specs.Places.{cells}
use Rattle.centre_events.specs.Presence.{presence}
use Rattle.centre_events.specs.declared.answer.Answer.{Answer}
use Rattle.centre_events.specs.declared.answer.Answer.TheVariants.{Asked}
use Rattle.centre_events.specs.declared.refusal.Refusal.{Refusal}
use Rattle.centre_events.specs.declared.refusal.Refusal.TheVariants.{NoSuchWarning, NothingToAsk}

-- the cell comes after the given one, if one is given, and the message is on air in it at the BSC
abbrev pub is_asked : Past → ℕ → ℕ → ℕ → Option Cell → Cell → Bool
is_asked past b m s after c = is_after after c && is_on_air (presence past b c m s)

-- those cells, in order
abbrev pub on_air_after : Past → ℕ → ℕ → ℕ → Option Cell → List Cell
on_air_after past b m s after = sorted_by cell_lt (filter (is_asked past b m s after) (cells past))

-- those that one query names
abbrev pub asked_cells : Past → ℕ → ℕ → ℕ → Option Cell → List Cell
asked_cells past b m s after = take most_cells (on_air_after past b m s after)

-- the query of these cells, if there are any
abbrev pub query_of : ℕ → ℕ → List Cell → Result Answer Refusal
query_of m s [] = Err NothingToAsk
query_of m s (c ∷ cs) = Ok (Asked m s (c ∷ cs) (query_message m s (c ∷ cs)))

-- the query of the version of this serial number, if there is one
abbrev pub version_query : Past → ℕ → ℕ → Option ℕ → Option Cell → Result Answer Refusal
version_query past b m None after = Err NothingToAsk
version_query past b m (Some s) after = query_of m s (asked_cells past b m s after)

-- a query of a warning of the kind: an emergency warning is asked in no cell
abbrev pub query_of_kind : Kind → Result Answer Refusal → Result Answer Refusal
query_of_kind kind.Cbs query = query
query_of_kind kind.Emergency query = Err NothingToAsk

-- the query of the warning's current version, if the warning is in the book
abbrev pub warning_query : Past → ℕ → Option Warning → Option Cell → Result Answer Refusal
warning_query past b None after = Err NoSuchWarning
warning_query past b (Some w) after = query_of_kind (kind_of w) (version_query past b w.message_id (current_of w) after)
