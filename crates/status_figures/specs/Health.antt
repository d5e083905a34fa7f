-- Whether a centre is whole.
use Rattle.std.specs.Prelude.{Bool, true, false, ◌-◌, ◌++◌, nat_le, List, ℕ, codes}
use Rattle.centre_past.specs.declared.lists.centre_status.CentreStatus.{CentreStatus}
use Rattle.status_figures.specs.Words.{newline}
use Rattle.status_figures.specs.declared.health.Health.{Health}
use Rattle.status_figures.specs.declared.health.Health.TheVariants.{Whole, Stale, JournalFull, StaleAndFull}

-- no entry can be made: since the last fold there are as many as there may be
abbrev pub is_journal_full : CentreStatus → Bool
is_journal_full s = nat_le s.limit (s.entries - s.folded)

-- whether it is stale, and whether its journal is full
abbrev pub health_with : Bool → Bool → Health
health_with false false = Whole
health_with true false = Stale
health_with false true = JournalFull
health_with true true = StaleAndFull

-- how a centre is
abbrev pub health_of : CentreStatus → Health
health_of s = health_with s.is_stale (is_journal_full s)

-- that nothing is wrong with it
abbrev pub is_whole : Health → Bool
is_whole Whole = true
is_whole Stale = false
is_whole JournalFull = false
is_whole StaleAndFull = false

-- that it has numbers: it has none while it is stale
abbrev pub has_numbers : Health → Bool
has_numbers Whole = true
has_numbers Stale = false
has_numbers JournalFull = true
has_numbers StaleAndFull = false

-- a line for each thing that is wrong
abbrev pub health_text : Health → List ℕ
health_text Whole = codes "ok" ++ newline
health_text Stale = codes "stale" ++ newline
health_text JournalFull = codes "journal full" ++ newline
health_text StaleAndFull = codes "stale\njournal full" ++ newline
