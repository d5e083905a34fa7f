-- What stands in a file, and what a crash leaves of it.
use Rattle.std.specs.Prelude.{◌≡◌, ℕ, ◌≤◌, List, [], ◌++◌, length, take, ⊤, Option, None, Some, Result, MatchResult}
use Rattle.framing.specs.declared.failed.Failed.{Failed}

-- the octets of a file, and how many of them, from the first on, a crash leaves for certain
pub record FileState : Type 0 where
  pub octets : List ℕ
  pub durable : ℕ

-- the octets were put at the end
abbrev pub grown : FileState → List ℕ → FileState
grown file more = record { octets = file.octets ++ more; durable = file.durable }

-- a crash leaves all of it
abbrev pub settled : FileState → FileState
settled file = record { octets = file.octets; durable = length file.octets }

-- a file that is known grows by the octets
abbrev pub Grows : Option FileState → Option FileState → List ℕ → Type 0
Grows None new more = ⊤
Grows (Some old) None more = ⊥
Grows (Some old) (Some new) more = new ≡ grown old more

-- a file that is known grows by some of the octets, from the first on
abbrev pub GrowsInPart : Option FileState → Option FileState → List ℕ → Type 0
GrowsInPart old new more = (count : ℕ) × Grows old new (take count more)

-- a file that is known grows by the octets, and a crash leaves all of it
abbrev pub GrowsForGood : Option FileState → Option FileState → List ℕ → Type 0
GrowsForGood None new more = ⊤
GrowsForGood (Some old) None more = ⊥
GrowsForGood (Some old) (Some new) more = new ≡ settled (grown old more)

-- an append of octets put so many of them at the end, or none where it failed
abbrev pub Appended : Option FileState → Option FileState → Result ℕ Failed → List ℕ → Type 0
Appended old new result octets = MatchResult result (λ count. Grows old new (take count octets)) (λ _. Grows old new [])

-- a sync settled the file, or changed nothing where it failed
abbrev pub Synced : Option FileState → Option FileState → Result (Unit {0}) Failed → Type 0
Synced old new result = MatchResult result (λ _. GrowsForGood old new []) (λ _. Grows old new [])

-- what a crash may leave of the file: its first octets, and all of those that are durable
pub record Leaves (file : FileState) (left : List ℕ) : Type 0 where
  pub count : ℕ
  pub durable : file.durable ≤ count
  pub front : left ≡ take count file.octets
