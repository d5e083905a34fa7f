-- Why a line isn't the first one of a journal.
use Rattle.std.specs.Prelude.{◌≡◌, ◌≢◌, ℕ, ◌-◌, ◌<◌, List, ◌++◌, length, slice_index, replicate}
use Rattle.journal_file.specs.First.{IsHeader, IsOfOtherNetwork, IsOfOtherBroadcasts}
use Rattle.journal_file.specs.declared.heading.Heading.{Heading}
use Rattle.journal_file.specs.declared.load_fault.LoadFault.{LoadFault}
use Rattle.journal_file.specs.declared.load_fault.LoadFault.TheVariants.{NotJournal, OtherNetwork, OtherBroadcasts}

-- it is the first of none, or of the journal of another network, or of one with another number of broadcasts
abbrev pub IsFirstFault : Heading → List ℕ → LoadFault → Type 0
IsFirstFault heading line NotJournal = ¬ IsHeader line
IsFirstFault heading line OtherNetwork = IsOfOtherNetwork heading line
IsFirstFault heading line (OtherBroadcasts found asked) = (asked ≡ heading.broadcasts) × IsOfOtherBroadcasts heading line found
IsFirstFault heading line other = ⊥

-- the octets are these, and octets 00 behind them, as many as there are
pub record IsWithoutZeros (octets front : List ℕ) : Type 0 where
  pub zeros : ℕ
  pub whole : octets ≡ front ++ replicate zeros 0
  pub last : 0 < length front → slice_index front (length front - 1) ≢ 0
