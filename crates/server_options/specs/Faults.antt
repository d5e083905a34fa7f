-- What is said of a fault that ends a run of the server, and the exit status after it.
use Rattle.std.specs.Prelude.{ℕ, List, [], ◌++◌, codes}
use Rattle.console_text.specs.Faults.{fault_words}
use Rattle.console_text.specs.Texts.{newline}
use Rattle.server_options.specs.declared.fault.ServeFault.{ServeFault}
use Rattle.server_options.specs.declared.fault.ServeFault.TheVariants as serve_fault

-- the words, and the end of the line
abbrev pub words_of : ServeFault → List ℕ
words_of serve_fault.Peers = codes "cbc: peers fault" ++ newline
words_of serve_fault.JournalInUse = codes "cbc: journal in use" ++ newline
words_of serve_fault.OtherNetwork = codes "cbc: journal of another network" ++ newline
words_of serve_fault.OtherBroadcasts = []
words_of serve_fault.NotJournal = codes "cbc: not a journal" ++ newline
words_of serve_fault.JournalLine = []
words_of serve_fault.JournalRead = codes "cbc: journal read fault" ++ newline
words_of serve_fault.Journal = codes "cbc: journal fault" ++ newline
words_of serve_fault.Listen = codes "cbc: listen fault" ++ newline
words_of serve_fault.Settle = codes "cbc: settle fault" ++ newline
words_of (serve_fault.Lines fault) = fault_words fault

-- the exit status: 3 where a file isn't as it has to be, 4 where the kept file is of another network or number of broadcasts, 5 where
-- the machine refuses the disk or a port, and 1 after any other
abbrev pub status_of : ServeFault → ℕ
status_of serve_fault.Peers = 3
status_of serve_fault.JournalInUse = 1
status_of serve_fault.OtherNetwork = 4
status_of serve_fault.OtherBroadcasts = 4
status_of serve_fault.NotJournal = 3
status_of serve_fault.JournalLine = 3
status_of serve_fault.JournalRead = 5
status_of serve_fault.Journal = 5
status_of serve_fault.Listen = 5
status_of serve_fault.Settle = 1
status_of (serve_fault.Lines fault) = 1
