-- The book of warnings: what it tells, and what each edit makes of it.
use Rattle.std.specs.Prelude.{ℕ, ◌+◌, Bool, true, false, ◌&&◌, not, List, [], ◌∷◌, ◌++◌, map, Option, Some, None, nat_eq, nat_le, ltb, bytes_eq, find, length, if◌then◌else◌}
use Rattle.std.specs.List.{list_any, filter, last_or}
use Rattle.std.specs.Option.{is_some, option_eq, option_map, option_and_then, option_to_list}
use Rattle.serials.specs.Serials.{scope_number, serial_of, code_of, next_of, least_free}
use Rattle.warning_book.specs.Content.{content_kind, is_same_kind}
use Rattle.warning_book.specs.declared.content.Content.{Content}
use Rattle.warning_book.specs.declared.kind.Kind.{Kind}
use Rattle.warning_book.specs.declared.kind.Kind.TheVariants as kind
use Rattle.warning_book.specs.declared.notice.Notice.{Notice}
use Rattle.warning_book.specs.declared.version.Version.{Version}
use Rattle.warning_book.specs.declared.warning.Warning.{Warning}

-- how many warnings were ever issued, and those in the book, in the order of issue
pub record State : Type 0 where
  pub issued : ℕ
  pub warnings : List Warning

-- a book before the first warning is issued
abbrev pub empty : State
empty = record { issued = 0; warnings = [] }

-- the versions of a warning, in the order in which they were issued

-- the serial number of the last of the versions
abbrev pub last_serial : List Version → Option ℕ
last_serial versions = option_map (λ v. v.serial) (last_or None versions)

-- the serial number of the current version of a warning
abbrev pub current_of : Warning → Option ℕ
current_of w = last_serial w.versions

-- the code of a warning: that of its current version
abbrev pub code_in : Warning → Option ℕ
code_in w = option_map code_of (current_of w)

-- the kind of the first of the versions
abbrev pub first_kind : List Version → Kind
first_kind [] = kind.Cbs
first_kind (v ∷ versions) = content_kind v.content

-- the kind of a warning: that of its first version
abbrev pub kind_of : Warning → Kind
kind_of w = first_kind w.versions

-- tests of a warning

-- it is the warning of that number
abbrev pub has_number : ℕ → Warning → Bool
has_number n w = nat_eq w.number n

-- warnings stand in the order of their numbers
abbrev pub number_lt : Warning → Warning → Bool
number_lt v w = ltb v.number w.number

-- it names the area
abbrev pub names : List ℕ → Warning → Bool
names a w = list_any (λ b. bytes_eq b a) w.areas

-- it names as many areas as it may
abbrev pub is_full : Warning → Bool
is_full w = nat_le 16 (length w.areas)

-- it names one area and no other
abbrev pub has_one_area : Warning → Bool
has_one_area w = nat_le (length w.areas) 1

-- the content is for a warning of the other kind
abbrev pub is_of_other_kind : Content → Warning → Bool
is_of_other_kind content w = not (is_same_kind (content_kind content) (kind_of w))

-- one of the warnings has that number, and it is as the test says
abbrev pub is_so : ℕ → (Warning → Bool) → List Warning → Bool
is_so n f ws = list_any (λ w. has_number n w && f w) ws

-- the book in this state has the warning, and it is as the test says
abbrev pub warning_is : State → ℕ → (Warning → Bool) → Bool
warning_is st n f = is_so n f st.warnings

-- the book has a warning of that number
abbrev pub is_there : State → ℕ → Bool
is_there st n = list_any (has_number n) st.warnings

-- that warning was issued and neither stopped nor forgotten
abbrev pub is_active : State → ℕ → Bool
is_active st n = warning_is st n (λ w. w.active)

-- what the book tells

-- the warning of that number
abbrev pub warning_of : State → ℕ → Option Warning
warning_of st n = find (has_number n) st.warnings

-- the serial number of the current version of the warning of that number
abbrev pub current : State → ℕ → Option ℕ
current st n = option_and_then current_of (warning_of st n)

-- the message identifier of the warning of that number
abbrev pub message_id : State → ℕ → Option ℕ
message_id st n = option_map (λ w. w.message_id) (warning_of st n)

-- the numbers of the warnings, in their order
abbrev pub numbers : List Warning → List ℕ
numbers ws = map (λ w. w.number) ws

-- the numbers of the warnings that name the area
abbrev pub naming : List ℕ → List Warning → List ℕ
naming a ws = numbers (filter (names a) ws)

-- it names one of the areas
abbrev pub names_one_of : List (List ℕ) → Warning → Bool
names_one_of areas w = list_any (λ a. names a w) areas

-- the numbers of the warnings that name one of the areas
abbrev pub naming_one_of : List (List ℕ) → List Warning → List ℕ
naming_one_of areas ws = numbers (filter (names_one_of areas) ws)

-- the areas of the warning of that number; none where there is no such warning
abbrev pub areas_of : ℕ → List Warning → List (List ℕ)
areas_of n [] = []
areas_of n (w ∷ ws) = if has_number n w then w.areas else areas_of n ws

-- the versions of the warning of that number; none where there is no such warning
abbrev pub versions_of : ℕ → List Warning → List Version
versions_of n [] = []
versions_of n (w ∷ ws) = if has_number n w then w.versions else versions_of n ws

-- the versions of a warning with this message identifier, and none of another
abbrev pub versions_if : ℕ → Warning → List Version
versions_if m w = if nat_eq w.message_id m then w.versions else []

-- the versions of the warnings with this message identifier
abbrev pub versions_with : ℕ → List Warning → List Version
versions_with m [] = []
versions_with m (w ∷ ws) = versions_if m w ++ versions_with m ws

-- the content that a message identifier and a serial number stand for
abbrev pub content_of : ℕ → ℕ → List Warning → Option Content
content_of m s ws = option_map (λ v. v.content) (find (λ v. nat_eq v.serial s) (versions_with m ws))

-- the code of a warning with this message identifier, and none of another
abbrev pub codes_if : ℕ → Warning → List ℕ
codes_if m w = if nat_eq w.message_id m then option_to_list (code_in w) else []

-- the codes of the warnings with this message identifier, one a warning
abbrev pub codes_of : ℕ → List Warning → List ℕ
codes_of m [] = []
codes_of m (w ∷ ws) = codes_if m w ++ codes_of m ws

-- the serial number of a new warning: its scope, the least code that is free, update number 0
abbrev pub new_serial : State → Notice → Option ℕ
new_serial st notice = option_map (λ code. serial_of (scope_number notice.scope) code 0) (least_free (codes_of notice.message_id st.warnings))

-- the serial number of the next version of a warning
abbrev pub next_serial : State → ℕ → Option ℕ
next_serial st n = option_map next_of (current st n)

-- what each edit makes of a warning

-- a new warning, which has one version
abbrev pub new_warning : ℕ → Notice → List (List ℕ) → ℕ → Warning
new_warning n notice areas serial = record { number = n; message_id = notice.message_id; versions = record { serial = serial; content = notice.content } ∷ []; areas = areas; active = true }

-- the version has that serial number
abbrev pub has_serial : ℕ → Version → Bool
has_serial serial v = nat_eq v.serial serial

-- the versions but that of the serial number, in their order
abbrev pub but_serial : ℕ → List Version → List Version
but_serial serial versions = filter (λ v. not (has_serial serial v)) versions

-- it has no version
abbrev pub has_none : Warning → Bool
has_none w = not (is_some (current_of w))

-- the version with that content that follows one with this serial number
abbrev pub version_after : Content → ℕ → Version
version_after content serial = record { serial = next_of serial; content = content }

-- the version that follows one with this serial number, last; a version that has its serial number leaves
abbrev pub followed : Content → Option ℕ → List Version → List Version
followed content None versions = versions
followed content (Some serial) versions = but_serial (next_of serial) versions ++ version_after content serial ∷ []

-- one more version, last, and without the one that has its serial number
abbrev pub with_next : Content → List Version → List Version
with_next content versions = followed content (last_serial versions) versions

-- the serial number is that of the warning's next version, and a version has it that leaves then
abbrev pub is_reused : Warning → ℕ → Bool
is_reused w serial = option_eq nat_eq (option_map next_of (current_of w)) (Some serial) && list_any (has_serial serial) w.versions

-- that content is the current version
abbrev pub updated : Content → Warning → Warning
updated content w = record w { versions = with_next content w.versions }

-- one more area, last
abbrev pub widened : List ℕ → Warning → Warning
widened a w = record w { areas = w.areas ++ a ∷ [] }

-- without the area, the others in their order
abbrev pub narrowed : List ℕ → Warning → Warning
narrowed a w = record w { areas = filter (λ b. not (bytes_eq b a)) w.areas }

-- not active, and otherwise as it was
abbrev pub stopped : Warning → Warning
stopped w = record w { active = false }

-- the warning of that number is changed
abbrev pub changed_if : ℕ → (Warning → Warning) → Warning → Warning
changed_if n f w = if has_number n w then f w else w

-- the warnings, that of the number changed
abbrev pub edited : ℕ → (Warning → Warning) → List Warning → List Warning
edited n f ws = map (changed_if n f) ws

-- the warnings but that of the number
abbrev pub without : ℕ → List Warning → List Warning
without n ws = filter (λ w. not (has_number n w)) ws

-- what each edit makes of the book

-- one more warning, last
abbrev pub after_issue : Notice → List (List ℕ) → ℕ → State → State
after_issue notice areas serial st = record { issued = st.issued + 1; warnings = st.warnings ++ new_warning (st.issued + 1) notice areas serial ∷ [] }

-- one more version of the warning of that number
abbrev pub after_update : ℕ → Content → State → State
after_update n content st = record st { warnings = edited n (updated content) st.warnings }

-- one more area of that warning
abbrev pub after_widen : ℕ → List ℕ → State → State
after_widen n a st = record st { warnings = edited n (widened a) st.warnings }

-- one area less of that warning
abbrev pub after_narrow : ℕ → List ℕ → State → State
after_narrow n a st = record st { warnings = edited n (narrowed a) st.warnings }

-- that warning is stopped
abbrev pub after_stop : ℕ → State → State
after_stop n st = record st { warnings = edited n stopped st.warnings }

-- that warning is taken out
abbrev pub after_forget : ℕ → State → State
after_forget n st = record st { warnings = without n st.warnings }
