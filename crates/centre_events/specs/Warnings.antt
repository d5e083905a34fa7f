-- The book of warnings that the entries make.
use Rattle.std.specs.Prelude.{ℕ, Bool, ◌&&◌, List, Option, Some, None, find, map, nat_eq}
use Rattle.std.specs.List.{list_any}
use Rattle.warning_book.specs.Book.{State, kind_of}
use Rattle.warning_book.specs.declared.kind.Kind.{Kind}
use Rattle.warning_book.specs.declared.kind.Kind.TheVariants as kind
use Rattle.warning_book.specs.declared.version.Version.{Version}
use Rattle.warning_book.specs.declared.warning.Warning.{Warning}
use Rattle.centre_events.specs.Past.{Past, From, After}
use Rattle.coverage_plan.specs.Edited.{book_after}
use Rattle.centre_events.specs.declared.event.Event.{Event}
use Rattle.centre_events.specs.declared.event.Event.TheVariants as event

-- no event but an edit changes the book
abbrev pub book_then : Event → State → State
book_then (event.Edit edit) st = book_after edit st
book_then other st = st

-- the book of warnings
abbrev pub book_of : Past → State
book_of (From base) = base.book
book_of (After e before) = book_then e.event (book_of before)

-- the warnings in the book, in the order of issue
abbrev pub warnings_of : Past → List Warning
warnings_of past = (book_of past).warnings

-- the version has this serial number
abbrev pub is_version : ℕ → Version → Bool
is_version s v = nat_eq v.serial s

-- the serial numbers of the warning's versions, the current one last
abbrev pub serials : Warning → List ℕ
serials w = map (λ v. v.serial) w.versions

-- a version of the warning has this message identifier and serial number
abbrev pub has_key : ℕ → ℕ → Warning → Bool
has_key m s w = nat_eq w.message_id m && list_any (is_version s) w.versions

-- a version of a warning in the book has them
abbrev pub is_key : Past → ℕ → ℕ → Bool
is_key past m s = list_any (has_key m s) (warnings_of past)

-- the kind of a warning in the book; CBS where there is none
abbrev pub kind_in : Option Warning → Kind
kind_in None = kind.Cbs
kind_in (Some w) = kind_of w

-- the kind of the first warning in the book of which a version has them
abbrev pub key_kind : Past → ℕ → ℕ → Kind
key_kind past m s = kind_in (find (has_key m s) (warnings_of past))
