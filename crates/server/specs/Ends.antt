-- What ends a run with consoles.
use Rattle.std.specs.Prelude.{Bool, true, false, Result, Ok}
use Rattle.console_text.specs.declared.fault.ReplayFault.{ReplayFault}
use Rattle.server_operator.specs.declared.leaving.Leaving.{Leaving}
use Rattle.server_operator.specs.declared.leaving.Leaving.TheVariants as leaving

-- with consoles, these lines of standard input alone end the program, and not the end of the lines
abbrev pub ends_program : Result Leaving ReplayFault → Bool
ends_program (Ok leaving.Quit) = true
ends_program (Ok leaving.Shutdown) = true
ends_program other = false
