-- Queries that no operator wished for (MESSAGE STATUS QUERY; 3GPP TS 48.049, 8.1.3): which is due at a BSC, and how many are wished for a second.
use Rattle.std.specs.Prelude.{ℕ, ◌+◌, ◌-◌, ◌^◌, Bool, false, ◌&&◌, not, List, [], ◌∷◌, ◌++◌, Option, Some, None, find, min, nat_eq, nat_le, nat_lt, if◌then◌else◌}
use Rattle.std.specs.List.{filter, list_any}
use Rattle.common.specs.declared.cell.Cell.{Cell}
use Rattle.link_rules.specs.declared.query.Query.{Query}
use Rattle.link_rules.specs.declared.query_turns.QueryTurns.{QueryTurns}
use Rattle.link_rules.specs.declared.version.Version.{Version}
use Rattle.link_rules.specs.declared.version_due.VersionDue.{VersionDue}

-- what is known at a BSC: the versions, each with the time at which a query for it is due, the one that was heard of last at the end;
-- what was last ordered or asked for and isn't answered, and what was before that, where no reply to it was told yet; the own query that
-- was wished for and hasn't gone out; and the one for the cells behind those of the last own one
pub record PaceState : Type 0 where
  pub period_ms : ℕ
  pub versions : List VersionDue
  pub late : Option Version
  pub out : Option Version
  pub own : Option Query
  pub rest : Option Query

-- both are one version
abbrev pub is_same : Version → Version → Bool
is_same v w = nat_eq v.message_id w.message_id && nat_eq v.serial w.serial

-- it is that version
abbrev pub is_of : Version → VersionDue → Bool
is_of v d = is_same d.version v

-- it is one of these
abbrev pub among : List Version → Version → Bool
among versions v = list_any (λ w. is_same w v) versions

abbrev pub due_of : Version → ℕ → VersionDue
due_of v time = record { version = v; due = time }

abbrev pub query_of : Version → Option Cell → Query
query_of v after = record { version = v; after = after }

-- the other versions
abbrev pub without : Version → List VersionDue → List VersionDue
without v all = filter (λ d. not (is_of v d)) all

-- with a query for the version due at that time, the last of all
abbrev pub with_due : Version → ℕ → List VersionDue → List VersionDue
with_due v time all = without v all ++ due_of v time ∷ []

-- the same where the version isn't there
abbrev pub with_new : Version → ℕ → List VersionDue → List VersionDue
with_new v time all = if list_any (is_of v) all then all else all ++ due_of v time ∷ []

-- so many milliseconds later, up to the greatest number that is counted
abbrev pub later : ℕ → ℕ → ℕ
later now time = min (now + time) (2 ^ 64 - 1)

-- nothing was heard of
abbrev pub new_pace : ℕ → PaceState
new_pace period = record { period_ms = period; versions = []; late = None; out = None; own = None; rest = None }

-- the link came up or ended
abbrev pub begun : PaceState → PaceState
begun p = record p { late = None; out = None; own = None; rest = None }

-- the query, where its version is one of these
abbrev pub query_among : List Version → Option Query → Option Query
query_among versions None = None
query_among versions (Some q) = if among versions q.version then Some q else None

-- only these versions are on air
abbrev pub with_only : List Version → PaceState → PaceState
with_only versions p = record p { versions = filter (λ d. among versions d.version) p.versions; rest = query_among versions p.rest }

-- the version is on air: a query for it is due a period later, where it wasn't heard of
abbrev pub seen : ℕ → Version → PaceState → PaceState
seen now v p = record p { versions = with_new v (later now p.period_ms) p.versions }

-- the version was heard of: the next query for it is due a period later
abbrev pub heard : ℕ → Version → PaceState → PaceState
heard now v p = record p { versions = with_due v (later now p.period_ms) p.versions }

-- a query for it is due at that time
abbrev pub is_due : ℕ → VersionDue → Bool
is_due now d = nat_le d.due now

abbrev pub version_in : Option VersionDue → Option Version
version_in None = None
version_in (Some d) = Some d.version

-- the first version for which one is due
abbrev pub due_first : ℕ → List VersionDue → Option Version
due_first now all = version_in (find (is_due now) all)

-- a query for the version in all its cells
abbrev pub first_query : Option Version → Option Query
first_query None = None
first_query (Some v) = Some (query_of v None)

-- the query that is due at that time: the one for the cells behind those of the last, or else one for the first version for which one is due
abbrev pub due_at : ℕ → PaceState → Option Query
due_at now p = elim p.rest [ None ↦ first_query (due_first now p.versions) | Some q ↦ Some q ]

-- there was nothing to ask for the query's version: the next is due a day later. Behind the last cells of a version nothing has to be
abbrev pub passed_over : ℕ → Query → List VersionDue → List VersionDue
passed_over now q all = elim q.after [ None ↦ with_due q.version (later now 86400000) all | Some cell ↦ all ]

-- the own query that was wished for hasn't gone out, and isn't wished for any more
abbrev pub in_vain : ℕ → PaceState → PaceState
in_vain now p = record p { own = None; versions = elim p.own [ None ↦ p.versions | Some q ↦ passed_over now q p.versions ] }

-- the query is wished for
abbrev pub with_wish : ℕ → Query → PaceState → PaceState
with_wish now q p = record (heard now q.version p) { own = Some q; rest = None }

-- a query for the version would be the own one
abbrev pub is_own : Version → PaceState → Bool
is_own v p = elim p.own [ None ↦ false | Some q ↦ is_same q.version v ]

-- the own query isn't wished for any more: the cells behind the last are still to be asked
abbrev pub without_wish : Query → PaceState → PaceState
without_wish q p = record p { own = None; rest = elim q.after [ None ↦ p.rest | Some cell ↦ Some q ] }

-- the query isn't wished for, and due at that time, unless it went out meanwhile
abbrev pub unwished : ℕ → Query → PaceState → PaceState
unwished now q p = if is_own q.version p then record (without_wish q p) { versions = with_due q.version now p.versions } else p

-- an order or a query for the version goes out; when the next query for it is due stays as it was
abbrev pub going_out : Version → PaceState → PaceState
going_out v p = record p { late = p.out; out = Some v; own = None }

-- an order or a query for the version goes out
abbrev pub with_order : ℕ → Version → PaceState → PaceState
with_order now v p = going_out v (heard now v p)

-- the query for the cells behind the last one, where there is such a cell
abbrev pub query_behind : Version → Option Cell → Option Query
query_behind v None = None
query_behind v (Some cell) = Some (query_of v (Some cell))

-- what is left to be asked where a query for the version goes out: after an own one, the cells behind its last, where it names as many as it may
abbrev pub with_query : Version → Option Cell → PaceState → PaceState
with_query v last p = record p { rest = if is_own v p then query_behind v last else p.rest }

-- of which version the next reply that is told is: of what went out before the last, where no reply to that was told
abbrev pub answered_version : PaceState → Option Version
answered_version p = elim p.late [ None ↦ p.out | Some v ↦ Some v ]

-- that isn't out any more
abbrev pub without_out : PaceState → PaceState
without_out p = record p { late = None; out = elim p.late [ None ↦ None | Some v ↦ p.out ] }

-- what was out is answered
abbrev pub with_answer : ℕ → PaceState → PaceState
with_answer now p = record (without_out p) { versions = elim (answered_version p) [ None ↦ p.versions | Some v ↦ with_due v (later now p.period_ms) p.versions ] }

-- so many a second, none of which was wished for
abbrev pub new_turns : ℕ → QueryTurns
new_turns per_second = record { per_second = per_second; begun = 0; left = per_second; next = 0 }

-- at that time: a second after the last one began the next begins
abbrev pub looked : ℕ → QueryTurns → QueryTurns
looked now t = if nat_le 1000 (now - t.begun) then record t { begun = now; left = t.per_second } else t

-- the place that is looked at first, of so many
abbrev pub first_place : ℕ → QueryTurns → ℕ
first_place count t = if nat_lt t.next count then t.next else 0

-- one is wished for at that place
abbrev pub with_turn : ℕ → QueryTurns → QueryTurns
with_turn place t = record t { left = t.left - 1; next = min (place + 1) (2 ^ 64 - 1) }
