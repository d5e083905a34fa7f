-- What is read of one line: what a BSC has in one cell of the versions of one warning.
use Rattle.std.specs.Prelude.{ℕ, Bool, true, false, List, Option, Some, None, nat_eq}
use Rattle.std.specs.Option.{is_some}
use Rattle.mirror.specs.Line.{state_of}
use Rattle.mirror.specs.declared.presence.Presence.{Presence}
use Rattle.mirror.specs.declared.presence.Presence.TheVariants.{Absent, OnAir, Unknown}
use Rattle.mirror.specs.declared.sight.Sight.{Sight}

-- by the serial number of a version: whether it is on air, and whether something holds it; the warning's message
-- identifier; the serial numbers of its versions, the current one last; the one that is wanted there; and whether the
-- cell is down
pub record Seen : Type 0 where
  pub presence : ℕ → Presence
  pub is_held : ℕ → Bool
  pub message_id : ℕ
  pub versions : List ℕ
  pub wanted : Option ℕ
  pub down : Bool

-- nothing is on air, as far as is known
abbrev pub is_absent : Presence → Bool
is_absent Absent = true
is_absent OnAir = false
is_absent Unknown = false

-- the BSC said that it is on air
abbrev pub is_on_air : Presence → Bool
is_on_air Absent = false
is_on_air OnAir = true
is_on_air Unknown = false

-- the serial number is that one
abbrev pub is_the : Option ℕ → ℕ → Bool
is_the None s = false
is_the (Some t) s = nat_eq t s

-- what a kept line says
abbrev pub seen : Sight → Seen
seen sight = record {
  presence = λ s. (state_of sight.line s).presence;
  is_held = λ s. is_some (state_of sight.line s).hold;
  message_id = sight.message_id;
  versions = sight.versions.now;
  wanted = sight.wanted;
  down = sight.down;
}
