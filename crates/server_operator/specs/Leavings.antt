-- Which lines end the lines of an operator.
use Rattle.std.specs.Prelude.{Bool, Option, Some, None, if◌then◌else◌}
use Rattle.server_lines.specs.declared.server_line.ServerLine.{ServerLine}
use Rattle.server_lines.specs.declared.server_line.ServerLine.TheVariants.{Quit, Shutdown, Watch}
use Rattle.server_operator.specs.declared.leaving.Leaving.{Leaving}
use Rattle.server_operator.specs.declared.leaving.Leaving.TheVariants as leaving

-- how the line ends them, if it does; `watch` does where the operator may follow the journal
abbrev pub leaving_of : ServerLine → Bool → Option Leaving
leaving_of Quit may_watch = Some leaving.Quit
leaving_of Shutdown may_watch = Some leaving.Shutdown
leaving_of Watch may_watch = if may_watch then Some leaving.Watch else None
leaving_of other may_watch = None
