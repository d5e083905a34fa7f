-- What those who wait for a journal to be kept share with the thread that keeps it.
use Rattle.std.specs.Prelude.{◌≡◌, ◌⊎◌, ℕ, ◌≤◌, Bool, true, false, Option, None, IfSome}
use Rattle.std.specs.Option.{is_some}
use Rattle.journal_keeper.specs.declared.kept_up_to.KeptUpTo.{KeptUpTo}

-- the place up to which all entries are kept; whether the file failed, the thread is to end, and has ended; the number of the last fold
-- asked for and made, and what the last was answered
pub record KeptFields (A : Type 0) : Type 0 where
  pub place : ℕ
  pub failed : Bool
  pub ending : Bool
  pub ended : Bool
  pub asked : ℕ
  pub made : ℕ
  pub answer : Option A

-- nothing is asked for
abbrev pub kept_up_to : {A : Type 0} → ℕ → KeptFields A
kept_up_to place = record { place = place; failed = false; ending = false; ended = false; asked = 0; made = 0; answer = None }

-- nothing is to be waited for
abbrev pub IsOver : {A : Type 0} → KeptFields A → ℕ → Type 0
IsOver state place = (place ≤ state.place) ⊎ (state.ended ≡ true)

-- all entries up to the place are kept in a file
abbrev pub IsKept : ℕ → KeptUpTo → Type 0
IsKept place kept = (is_some kept.place ≡ true) × IfSome kept.place (λ last. place ≤ last)

-- what tells of the entries up to the place may be let out: they are kept, or the journal has no file
abbrev pub Covers : KeptUpTo → ℕ → Type 0
Covers kept place = IfSome kept.place (λ last. place ≤ last)
