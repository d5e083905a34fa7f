-- How long an exchange over a connection has been going on, when the connection is closed, and which one goes where there are too many.
-- Times are in milliseconds of a clock that goes on.
use Rattle.std.specs.Prelude.{ℕ, ◌-◌, ◌<◌, ◌≤◌, ◌&&◌, ◌||◌, Bool, true, false, List, length, get_or, nat_lt, not, if◌then◌else◌}
use Rattle.server_http.specs.declared.visit.Visit.{Visit}
use Rattle.server_http.specs.declared.visitor.Visitor.{Visitor}

-- the connection was made at that time
abbrev pub begun : ℕ → Visit
begun now = record { since = now; heard = now; is_leaving = false; is_over = false }

-- octets of a request came at that time
abbrev pub with_octets : ℕ → Visit → Visit
with_octets now v = record v { heard = now }

-- octets of an answer went out at that time: an exchange ends with the last octet of its answer, and the next one begins
abbrev pub with_written : ℕ → Bool → Visit → Visit
with_written now is_whole v = record v { heard = now; since = if is_whole then now else v.since }

-- nothing more is answered from that time on
abbrev pub left : ℕ → Visit → Visit
left now v = record v { is_leaving = true; since = now }

-- it is to be closed
abbrev pub ended : Visit → Visit
ended v = record v { is_over = true }

-- it takes too long: an exchange more than twenty seconds, one that leaves more than two
abbrev pub is_late : ℕ → Visit → Bool
is_late now v = nat_lt (if v.is_leaving then 2000 else 20000) (now - v.since)

-- the connection is closed
abbrev pub is_closed : ℕ → Visit → Bool
is_closed now v = v.is_over || is_late now v

-- one whose connection is closed is told that the request took too long: a part of it has come, and it could still be answered
abbrev pub gets_time_out : Bool → Visit → Bool
gets_time_out is_asking v = not v.is_leaving && (not v.is_over && is_asking)

-- of these connections the one at that place has been silent for the longest time
pub record IsMostSilent (all : List Visitor) (place : ℕ) : Type 0 where
  pub there : 0 < length all → place < length all
  pub silent : (k : ℕ) (d : Visitor) → k < length all → (get_or all place d).visit.heard ≤ (get_or all k d).visit.heard
