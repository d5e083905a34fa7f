-- When the same is to be ordered on two lines.
use Rattle.std.specs.Prelude.{◌≡◌, ℕ, ⊤, List, Option, Some, None}
use Rattle.std.specs.List.{AllByRecursion}
use Rattle.mirror.specs.Seen.{Seen}

-- both lines are of one message and its versions, the same one wanted, and the cell up on both or on neither
pub record IsSamePlan (v w : Seen) : Type 0 where
  pub message_id : v.message_id ≡ w.message_id
  pub versions : v.versions ≡ w.versions
  pub wanted : v.wanted ≡ w.wanted
  pub down : v.down ≡ w.down

-- the version is as much on air on both lines, and held on both or on neither
pub record IsAlike (v w : Seen) (s : ℕ) : Type 0 where
  pub presence : v.presence s ≡ w.presence s
  pub held : v.is_held s ≡ w.is_held s

-- each of the versions is
abbrev pub AreAlike : Seen → Seen → List ℕ → Type 0
AreAlike v w versions = AllByRecursion (IsAlike v w) versions

-- the version is, if there is one
abbrev pub IsWantedAlike : Seen → Seen → Option ℕ → Type 0
IsWantedAlike v w None = ⊤
IsWantedAlike v w (Some s) = IsAlike v w s
