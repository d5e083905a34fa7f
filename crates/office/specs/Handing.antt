-- Entries that an office hands out to those who follow its journal.
use Rattle.std.specs.Prelude.{◌≡◌, ◌≢◌, ◌<◌, ◌⊎◌, ◌+◌, ◌-◌, ℕ, List, false, length, take, drop}
use Rattle.centre_past.specs.Headline.{PendingGivesPlan}
use Rattle.centre_past.specs.Legal.{Known, Lawful, all_entries, checkpointed, past}
use Rattle.centre_events.specs.Folding.{base_of}
use Rattle.centre_events.specs.declared.entry.Entry.{Entry}
use Rattle.office.specs.declared.entries.Entries.{Entries}
use Rattle.office.specs.declared.folded.Folded.{Folded}
use Rattle.office.specs.declared.progress.Progress.{Progress}

-- how many of the entries behind that place are folded
abbrev pub missed_after : ℕ → Known → ℕ
missed_after after centre = length centre.folded - after

-- the entries behind that place that aren't folded, the oldest first
abbrev pub entries_after : ℕ → Known → List Entry
entries_after after centre = drop (after + missed_after after centre) (all_entries centre)

-- what is handed out is the first of the entries behind that place that aren't folded, at most so many, and how many come before them
pub record AreEntriesAfter (after most : ℕ) (centre : Known) (e : Entries) : Type 0 where
  pub missed : e.missed ≡ missed_after after centre
  pub entries : e.entries.items ≡ take most (entries_after after centre)

-- what is handed out is all entries behind that place that aren't folded, and how many come before them
pub record AreAllAfter (after : ℕ) (centre : Known) (e : Entries) : Type 0 where
  pub missed : e.missed ≡ missed_after after centre
  pub entries : e.entries.items ≡ entries_after after centre

-- it is so in some centre whose entries are lawful, after which the pending orders give the plan
pub record AreEntriesSomewhere (after most : ℕ) (e : Entries) : Type 0 where
  pub centre : Known
  pub lawful : Lawful centre.settings (past centre)
  pub headline : PendingGivesPlan (past centre)
  pub are : AreEntriesAfter after most centre e

-- In some such centre, which was whole, the journal had so many entries, all of those behind that place are handed out, and they were
-- folded. What a past says is what its parts say that a base has; these are as before.
pub record IsFoldedAfterSomewhere (after : ℕ) (f : Folded) : Type 0 where
  pub centre : Known
  pub lawful : Lawful centre.settings (past centre)
  pub headline : PendingGivesPlan (past centre)
  pub whole : centre.stale ≡ false
  pub counted : f.count ≡ length centre.journal
  pub are : AreAllAfter after centre f.rest
  pub same : base_of (past (checkpointed centre)) ≡ base_of (past centre)

-- some such centre has so many entries, those counted that are folded
pub record IsPositionSomewhere (n : ℕ) : Type 0 where
  pub centre : Known
  pub lawful : Lawful centre.settings (past centre)
  pub position : n ≡ length (all_entries centre)

-- so many entries of some such centre aren't folded
pub record IsUnfoldedSomewhere (n : ℕ) : Type 0 where
  pub centre : Known
  pub lawful : Lawful centre.settings (past centre)
  pub unfolded : n ≡ length centre.journal

-- some such centre has so many entries, and these are more than those, or there was an interruption since that one
pub record IsProgressSomewhere (after interrupts : ℕ) (p : Progress) : Type 0 where
  pub position : IsPositionSomewhere p.position
  pub cause : (after < p.position) ⊎ (p.interrupts ≢ interrupts)
