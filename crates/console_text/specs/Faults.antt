-- What is said of a fault that ends a run.
use Rattle.std.specs.Prelude.{ℕ, List, ◌++◌, codes}
use Rattle.console_text.specs.Texts.{newline}
use Rattle.console_text.specs.declared.fault.ReplayFault.{ReplayFault}
use Rattle.console_text.specs.declared.fault.ReplayFault.TheVariants.{ReadFault, WriteFault, Memory, LongLine}

-- the words, and the end of the line
abbrev pub fault_words : ReplayFault → List ℕ
fault_words ReadFault = codes "cbc: read fault" ++ newline
fault_words WriteFault = codes "cbc: write fault" ++ newline
fault_words Memory = codes "cbc: out of memory" ++ newline
fault_words LongLine = codes "cbc: line too long" ++ newline
