-- The warnings in an operator's words: what the entries of a past say of the warning of a number. None of the book's
-- own words for its edits stands here, so that the book is measured by another account of the same entries.
use Rattle.std.specs.Prelude.{◌≡◌, ◌<◌, ℕ, ◌+◌, ◌%◌, Bool, true, false, ◌&&◌, not, List, [], ◌∷◌, ◌++◌, Option, Some, None, nat_eq, bytes_eq, if◌then◌else◌}
use Rattle.std.specs.List.{list_any, filter}
use Rattle.serials.specs.Serials.{scope_number, scope_part, code_of, update_of}
use Rattle.warning_book.specs.Book.{is_active, areas_of, versions_of, message_id, numbers}
use Rattle.warning_book.specs.declared.content.Content.{Content}
use Rattle.warning_book.specs.declared.notice.Notice.{Notice}
use Rattle.warning_book.specs.declared.version.Version.{Version}
use Rattle.centre_events.specs.Base.{Base}
use Rattle.centre_events.specs.Past.{Past, From, After, latest, by_edit}
use Rattle.mirror.specs.Seen.{is_the}
use Rattle.centre_events.specs.Warnings.{book_of, warnings_of}
use Rattle.centre_events.specs.declared.answer.Answer.{Answer}
use Rattle.centre_events.specs.declared.answer.Answer.TheVariants.{Issued, Updated}
use Rattle.coverage_plan.specs.declared.edit.Edit.{Edit}
use Rattle.coverage_plan.specs.declared.edit.Edit.TheVariants.{Issue, Update, Widen, Narrow, Stop, Forget}
use Rattle.centre_events.specs.declared.event.Event.{Event}
use Rattle.centre_events.specs.declared.event.Event.TheVariants as event

-- the answer gives that number to a new warning
abbrev pub gives_number : ℕ → Answer → Bool
gives_number n (Issued m s) = nat_eq m n
gives_number n other = false

-- the edit, answered so, begins the warning of that number, or ends it
abbrev pub active_mark : ℕ → Answer → Edit → Option Bool
active_mark n answer (Issue notice areas) = if gives_number n answer then Some true else None
active_mark n answer (Stop m) = if nat_eq m n then Some false else None
active_mark n answer (Forget m) = if nat_eq m n then Some false else None
active_mark n answer other = None

-- the last Issue, Stop or Forget of the warning is its Issue
abbrev pub is_active_by : Past → ℕ → Bool
is_active_by past n = latest (λ e before. by_edit (active_mark n e.answer) e.event) (λ base. is_active base.book n) past

-- what the event, answered so, makes of what was there: f says it of an edit, and no other event changes it
abbrev pub edit_makes : {A : Type 0} → (Edit → Answer → A → A) → Event → Answer → A → A
edit_makes f (event.Edit e) answer x = f e answer x
edit_makes f other answer x = x

-- what the entries make of what the base has, one after another
abbrev pub through : {A : Type 0} → (Edit → Answer → A → A) → (Base → A) → Past → A
through f first (From base) = first base
through f first (After e before) = edit_makes f e.event e.answer (through f first before)

-- the areas but that one, in their order
abbrev pub but : List ℕ → List (List ℕ) → List (List ℕ)
but a areas = filter (λ b. not (bytes_eq b a)) areas

-- a warning begins with the areas of its Issue; a Widen adds one last, a Narrow takes one out; after its Forget it has
-- none
abbrev pub areas_then : ℕ → Edit → Answer → List (List ℕ) → List (List ℕ)
areas_then n (Issue notice areas) answer were = if gives_number n answer then areas else were
areas_then n (Widen m a) answer were = if nat_eq m n then were ++ a ∷ [] else were
areas_then n (Narrow m a) answer were = if nat_eq m n then but a were else were
areas_then n (Forget m) answer were = if nat_eq m n then [] else were
areas_then n other answer were = were

-- the areas of the warning
abbrev pub areas_by : Past → ℕ → List (List ℕ)
areas_by past n = through (areas_then n) (λ base. areas_of n base.book.warnings) past

-- the content with that serial number
abbrev pub version : ℕ → Content → Version
version s content = record { serial = s; content = content }

-- the first version has the serial number that the Issue was answered
abbrev pub begun : ℕ → Content → Answer → List Version → List Version
begun n content (Issued m s) were = if nat_eq m n then version s content ∷ [] else were
begun n content other were = were

-- the versions but that of the serial number, in their order
abbrev pub without_version : ℕ → List Version → List Version
without_version s versions = filter (λ v. not (nat_eq v.serial s)) versions

-- each further one has the serial number that its Update was answered, and stands last; one that had this serial number
-- before is no version any more
abbrev pub continued : Content → Answer → List Version → List Version
continued content (Updated s) were = without_version s were ++ version s content ∷ []
continued content other were = were

-- the versions of a warning begin with its Issue; an Update adds one; after its Forget there are none
abbrev pub versions_then : ℕ → Edit → Answer → List Version → List Version
versions_then n (Issue notice areas) answer were = begun n notice.content answer were
versions_then n (Update m content) answer were = if nat_eq m n then continued content answer were else were
versions_then n (Forget m) answer were = if nat_eq m n then [] else were
versions_then n other answer were = were

-- the versions of the warning, in the order in which they were issued
abbrev pub versions_by : Past → ℕ → List Version
versions_by past n = through (versions_then n) (λ base. versions_of n base.book.warnings) past

-- the message identifier of the Issue, until the Forget
abbrev pub message_mark : ℕ → Answer → Edit → Option (Option ℕ)
message_mark n answer (Issue notice areas) = if gives_number n answer then Some (Some notice.message_id) else None
message_mark n answer (Forget m) = if nat_eq m n then Some None else None
message_mark n answer other = None

-- the message identifier of the warning
abbrev pub message_by : Past → ℕ → Option ℕ
message_by past n = latest (λ e before. by_edit (message_mark n e.answer) e.event) (λ base. message_id base.book n) past

-- one more warning is issued
abbrev pub issues_then : Edit → Answer → ℕ → ℕ
issues_then (Issue notice areas) answer were = were + 1
issues_then other answer were = were

-- how many warnings were ever issued
abbrev pub issued_by : Past → ℕ
issued_by past = through issues_then (λ base. base.book.issued) past

-- the number that the answer gives to a new warning
abbrev pub number_given : Answer → List ℕ
number_given (Issued n s) = n ∷ []
number_given other = []

-- an Issue adds the number of its warning last, a Forget takes its own out
abbrev pub numbers_then : Edit → Answer → List ℕ → List ℕ
numbers_then (Issue notice areas) answer were = were ++ number_given answer
numbers_then (Forget n) answer were = filter (λ k. not (nat_eq k n)) were
numbers_then other answer were = were

-- the numbers of the warnings that were issued and not forgotten, in the order of issue
abbrev pub numbers_by : Past → List ℕ
numbers_by past = through numbers_then (λ base. numbers base.book.warnings) past

-- the warning of that number has the message identifier, and one of its versions the code
abbrev pub has_code : Past → ℕ → ℕ → ℕ → Bool
has_code past m code n = is_the (message_by past n) m && list_any (λ v. nat_eq (code_of v.serial) code) (versions_by past n)

-- a warning that was issued and not forgotten has them
abbrev pub is_used : Past → ℕ → ℕ → Bool
is_used past m code = list_any (has_code past m code) (numbers_by past)

-- the code of the serial number is one that no such warning with the notice's message identifier has; each smaller code
-- is one that such a warning has
pub record HasLeastCode (before : Past) (notice : Notice) (s : ℕ) : Type 0 where
  pub free : is_used before notice.message_id (code_of s) ≡ false
  pub least : (code : ℕ) → code < code_of s → is_used before notice.message_id code ≡ true

-- a new warning has the next number, and a serial number of the notice's scope, the least free code and update number 0
pub record IsNew (before : Past) (notice : Notice) (n : ℕ) (s : ℕ) : Type 0 where
  pub number : n ≡ issued_by before + 1
  pub code : HasLeastCode before notice s
  pub scope : scope_part s ≡ scope_number notice.scope
  pub update : update_of s ≡ 0

-- what an Issue is answered
abbrev pub IsAnsweredIssue : Past → Notice → Answer → Type 0
IsAnsweredIssue before notice (Issued n s) = IsNew before notice n s
IsAnsweredIssue before notice other = ⊥

-- a further version has the scope and the code of the one before it, and the next update number, 0 after 15
pub record IsNext (t : ℕ) (s : ℕ) : Type 0 where
  pub scope : scope_part s ≡ scope_part t
  pub code : code_of s ≡ code_of t
  pub update : update_of s ≡ (update_of t + 1) % 16

-- that of the last of the versions, and there is one
abbrev pub FollowsLast : List Version → ℕ → Type 0
FollowsLast [] s = ⊥
FollowsLast (v ∷ []) s = IsNext v.serial s
FollowsLast (v ∷ u ∷ vs) s = FollowsLast (u ∷ vs) s

-- what an Update is answered
abbrev pub IsAnsweredUpdate : List Version → Answer → Type 0
IsAnsweredUpdate were (Updated s) = FollowsLast were s
IsAnsweredUpdate were other = ⊥

-- what an edit is answered, where it is an Issue or an Update
abbrev pub IsEditAnswered : Past → Edit → Answer → Type 0
IsEditAnswered before (Issue notice areas) answer = IsAnsweredIssue before notice answer
IsEditAnswered before (Update n content) answer = IsAnsweredUpdate (versions_by before n) answer
IsEditAnswered before other answer = Unit {0}

-- what an event is answered, where it is one of these
abbrev pub IsAnswered : Past → Event → Answer → Type 0
IsAnswered before (event.Edit e) answer = IsEditAnswered before e answer
IsAnswered before other answer = Unit {0}

-- each Issue and each Update of the past is answered so
abbrev pub AreAnswered : Past → Type 0
AreAnswered (From base) = Unit {0}
AreAnswered (After e before) = IsAnswered before e.event e.answer × AreAnswered before

-- the book of the past has the warnings that the entries leave, in their order, and says of the warning of each number
-- what the entries say
pub record IsBookOf (past : Past) : Type 0 where
  pub numbered : numbers (warnings_of past) ≡ numbers_by past
  pub active : (n : ℕ) → is_active (book_of past) n ≡ is_active_by past n
  pub areas : (n : ℕ) → areas_of n (warnings_of past) ≡ areas_by past n
  pub versions : (n : ℕ) → versions_of n (warnings_of past) ≡ versions_by past n
  pub messages : (n : ℕ) → message_id (book_of past) n ≡ message_by past n
  pub issued : (book_of past).issued ≡ issued_by past
  pub answers : AreAnswered past
