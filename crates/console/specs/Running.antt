-- How a run of the program ends.
use Rattle.std.specs.Prelude.{◌≡◌, ◌⊎◌, ℕ, ◌==◌, List, ◌++◌, Option, Some, None, codes}
use Rattle.std.specs.Bool.{MatchBool}
use Rattle.std.specs.Io.KnownBytes.{Appends}
use Rattle.framing.specs.Sink.{AppendsFront}
use Rattle.framing.specs.Source.{FailsToRead, counted}
use Rattle.clap.specs.Words.{Text}
use Rattle.console_text.specs.CommandLine.{AreTaken, Asks, AsksBadBroadcasts, AsksBadJournal, AsksBadPlmn, AsksHelp, AsksServe, IsMistaken}
use Rattle.console.specs.Replays.{new_session, Replays, BreaksOff}
use Rattle.console.specs.Sessions.{SessionState}
use Rattle.console_text.specs.Faults.{fault_words}
use Rattle.console_text.specs.Texts.{newline}
use Rattle.console_text.specs.declared.fault.ReplayFault.{ReplayFault}
use Rattle.console_text.specs.declared.fault.ReplayFault.TheVariants.{ReadFault, WriteFault, Memory, LongLine}
use Rattle.centre_events.specs.declared.network.Network.{Network}

-- what is said of a network that isn't six hexadecimal digits
abbrev pub bad_plmn : List ℕ
bad_plmn = codes "cbc: bad plmn" ++ newline

-- what is said of a number of broadcasts that isn't one from 0 to 65,535
abbrev pub bad_broadcasts : List ℕ
bad_broadcasts = codes "cbc: bad broadcasts" ++ newline

-- what is said of a number of entries that isn't one from 1 to 4,000,000
abbrev pub bad_journal : List ℕ
bad_journal = codes "cbc: bad journal" ++ newline

-- what a run has yet to read, how often it has read, what it has written and what it has said; and how often reading,
-- writing and saying have failed
pub record Streams : Type 0 where
  pub input : Option (List ℕ)
  pub reads : ℕ
  pub failed_reads : ℕ
  pub output : Option (List ℕ)
  pub failed_writes : ℕ
  pub errors : Option (List ℕ)
  pub unsaid : ℕ

-- the text is said, or a prefix of it where that fails
abbrev pub IsTold : Option (List ℕ) → Option (List ℕ) → ℕ → ℕ → List ℕ → Type 0
IsTold before after failures failures' text = (Appends before after text × (failures' ≡ failures)) ⊎ (AppendsFront before after text × (failures' ≡ counted failures 1))

-- the text is said on standard error
abbrev pub Tells : Streams → Streams → List ℕ → Type 0
Tells old new text = IsTold old.errors new.errors old.unsaid new.unsaid text

-- a script was run to its end
pub record RunsWhole (start : SessionState) (old new : Streams) : Type 0 where
  pub all : Replays start old.input new.input old.output new.output
  pub silent : new.errors ≡ old.errors
  pub all_read : new.failed_reads ≡ old.failed_reads
  pub all_written : new.failed_writes ≡ old.failed_writes

-- a fault ended it, and was said: where one of its reads failed that, or so many reads came to no end, and where one of its writes
-- failed that
pub record RunsInPart (start : SessionState) (old new : Streams) : Type 0 where
  pub fault : ReplayFault
  pub broke : BreaksOff start old.input new.input old.output new.output fault
  pub told : Tells old new (fault_words fault)
  pub all_read : (new.failed_reads ≡ old.failed_reads) ⊎ (fault ≡ ReadFault)
  pub all_written : (new.failed_writes ≡ old.failed_writes) ⊎ (fault ≡ WriteFault)
  pub read_fault : fault ≡ ReadFault → FailsToRead old.reads new.reads old.failed_reads new.failed_reads
  pub write_fault : fault ≡ WriteFault → new.failed_writes ≡ counted old.failed_writes 1

-- the status of a run of a script
abbrev pub Runs : SessionState → Streams → Streams → ℕ → Type 0
Runs start old new status = MatchBool (status == 0) (RunsWhole start old new) ((status ≡ 1) × RunsInPart start old new)

-- what is said of a network, of a number of broadcasts or of a number of entries that is bad
abbrev pub IsBadValue : List Text → List ℕ → Type 0
IsBadValue words said =
    (AsksBadPlmn words × (said ≡ bad_plmn)) ⊎ ((AsksBadBroadcasts words × (said ≡ bad_broadcasts)) ⊎ (AsksBadJournal words × (said ≡ bad_journal)))

-- what is said of a command line that is taken, where no script is run: memory ran out, or a value is bad
abbrev pub IsCause : List Text → ℕ → List ℕ → Type 0
IsCause words status said = ((status ≡ 1) × (said ≡ fault_words Memory)) ⊎ ((status ≡ 2) × IsBadValue words said)

-- why a run without a script has status 1: memory ran out, or help could not be written in full
abbrev pub IsUnable : List Text → Streams → Streams → List ℕ → Type 0
IsUnable words old new said =
    ((said ≡ fault_words Memory) × (new.output ≡ old.output))
    ⊎ ((said ≡ fault_words WriteFault) × AsksHelp words × (new.failed_writes ≡ counted old.failed_writes 1) × ((text : List ℕ) × AppendsFront old.output new.output text))

-- no script was run: help is written, or the fault is said that is the cause
pub record RunsNone (words : List Text) (old new : Streams) (status : ℕ) : Type 0 where
  pub said : List ℕ
  pub cause : AreTaken words → IsCause words status said
  pub helped : status ≡ 0 → AsksHelp words
  pub unable : status ≡ 1 → IsUnable words old new said
  pub refused : status ≡ 2 → IsBadValue words said ⊎ IsMistaken words
  pub unread : (new.input ≡ old.input) × (new.reads ≡ old.reads) × (new.failed_reads ≡ old.failed_reads)
  pub answered : MatchBool (status == 0) (Appends old.output new.output said × (new.errors ≡ old.errors)) (Tells old new said)
  pub silent : status ≡ 2 → new.output ≡ old.output
  pub least : (status ≡ 0) ⊎ ((status ≡ 1) ⊎ (status ≡ 2))

-- a script was run, with the network, the number of broadcasts and the limit that the words ask for
pub record RunsSome (words : List Text) (old new : Streams) (status : ℕ) : Type 0 where
  pub network : Network
  pub limit : ℕ
  pub asked : Asks words network limit
  pub runs : Runs (new_session network limit) old new status

-- how a run of the program ends: a script was run, or none; where the words ask for the server, nothing was done
abbrev pub Ends : List Text → Streams → Streams → Option ℕ → Type 0
Ends words old new (Some status) = RunsSome words old new status ⊎ RunsNone words old new status
Ends words old new None = AsksServe words × (new ≡ old)
