-- The words for the calls of a source and of a sink.
use Rattle.std.specs.Prelude.{◌≡◌, ◌⊎◌, ℕ, ◌+◌, ◌-◌, ◌^◌, Bool, true, false, min, max}

-- n calls and k more; a count stays at the greatest number of 64 bits
abbrev pub counted : ℕ → ℕ → ℕ
counted n k = max n (min (n + k) (2 ^ 64 - 1))

-- so many failures, and one more if the call failed
abbrev pub with_failure : ℕ → Bool → ℕ
with_failure n true = counted n 1
with_failure n false = n

-- why a loop of reads ends by a fault, from its calls and failures before and after: one of its reads failed, or so many of them
-- came to no end and none failed
abbrev pub FailsToRead : ℕ → ℕ → ℕ → ℕ → Type 0
FailsToRead calls calls' failures failures' = (failures' ≡ counted failures 1) ⊎ ((calls' ≡ counted calls 1000000000000) × (failures' ≡ failures))
