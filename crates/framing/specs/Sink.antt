-- The words for what a sink takes.
use Rattle.std.specs.Prelude.{ℕ, ◌<◌, Bool, true, ◌&&◌, nat_lt, ◌==◌, List, Option, Result, length, take, Ok, Err}
use Rattle.std.specs.Io.KnownBytes.{Appends}
use Rattle.framing.specs.declared.failed.Failed.{Failed}

-- a write of so many octets came to nothing: Failed, or 0 of one octet or more
abbrev pub is_refused : Result ℕ Failed → ℕ → Bool
is_refused (Ok count) size = (count == 0) && nat_lt 0 size
is_refused (Err e) size = true

-- some of the octets were appended, from the first on, and not all
pub record AppendsFront (old new : Option (List ℕ)) (octets : List ℕ) : Type 0 where
  pub count : ℕ
  pub short : count < length octets
  pub appended : Appends old new (take count octets)
