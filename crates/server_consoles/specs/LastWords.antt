-- What a console is told as its connection ends.
use Rattle.std.specs.Prelude.{ℕ, List, [], ◌++◌, Result, Ok, Err, codes}
use Rattle.console_text.specs.Texts.{newline}
use Rattle.console_text.specs.declared.fault.ReplayFault.{ReplayFault}
use Rattle.console_text.specs.declared.fault.ReplayFault.TheVariants as fault
use Rattle.server_operator.specs.declared.leaving.Leaving.{Leaving}
use Rattle.server_operator.specs.declared.leaving.Leaving.TheVariants as leaving

-- by how its lines ended; nothing, where it closed its connection, can't be read or written, followed the journal, or nothing is answered
abbrev pub last_words_of : Result Leaving ReplayFault → List ℕ
last_words_of (Ok leaving.Quit) = codes "bye" ++ newline
last_words_of (Ok leaving.Shutdown) = codes "bye" ++ newline
last_words_of (Err fault.LongLine) = codes "line too long" ++ newline
last_words_of (Err fault.Memory) = codes "out of memory" ++ newline
last_words_of other = []
