-- What an office gives to the thread that keeps its journal.
use Rattle.std.specs.Prelude.{◌≡◌, ℕ, ◌≤◌, List, length, map}
use Rattle.centre_events.specs.declared.entry.Entry.{Entry}
use Rattle.centre_past.specs.Legal.{Known, Lawful, all_entries, past}
use Rattle.journal_file.specs.Lines.{IsEntryLine}
use Rattle.journal_file.specs.Writing.{WritingState, with_item}
use Rattle.journal_file.specs.Writing as writing
use Rattle.journal_keeper.specs.Following.{AnyKeepingOf, AreSaid, IsGiven, Portion, Puts}
use Rattle.journal_text.specs.Reading.{IsLineOf}

-- the line is one of the entry's event
abbrev pub SaysEntry : Entry → List ℕ → Type 0
SaysEntry e line = IsLineOf line e.event

-- some centre whose entries are lawful, and of which none behind that place is folded, gives it behind that place
pub record GivesSomewhere (place : ℕ) (portion : Portion) : Type 0 where
  pub centre : Known
  pub lawful : Lawful centre.settings (past centre)
  pub unfolded : length centre.folded ≤ place
  pub given : IsGiven SaysEntry (all_entries centre) place portion

-- the line of the entry was put
pub record PutsEntry (e : Entry) (old new : WritingState) : Type 0 where
  pub line : List ℕ
  pub says : SaysEntry e line
  pub fits : IsEntryLine line
  pub state : new ≡ with_item old (writing.Entry line)

-- the lines of the entries were put, and comments between them
pub record PutsEntries (entries : List Entry) (old new : WritingState) : Type 0 where
  pub lines : List (List ℕ)
  pub says : AreSaid SaysEntry entries lines
  pub puts : Puts old new (map writing.Entry lines)

-- Whatever list of portions of a journal is put into a file, of writes, of syncs, of faults, and of places of which somebody is told: at
-- every moment a crash leaves a beginning of the lines, which has every entry of which anybody was told.
abbrev pub AnyKeeping : Type 0
AnyKeeping = AnyKeepingOf Entry SaysEntry
