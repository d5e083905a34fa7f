-- Why a link ended.
use Rattle.std.specs.Prelude.{Bool, true, false, ◌&&◌, if◌then◌else◌, Option, Some, None}
use Rattle.std.specs.declared.io.ErrorKind.{ErrorKind}
use Rattle.std.specs.declared.io.ErrorKind.TheVariants as kind
use Rattle.link_worker.specs.Ends.{is_write_fault}
use Rattle.link_worker.specs.declared.end.End.{End}
use Rattle.link_worker.specs.declared.end.End.TheVariants as end
use Rattle.server_ports.specs.declared.broken.Broken.{Broken}
use Rattle.server_ports.specs.declared.broken.Broken.TheVariants as broken
use Rattle.server_ports.specs.declared.link_end.LinkEnd.{LinkEnd}
use Rattle.server_ports.specs.declared.link_end.LinkEnd.TheVariants as link_end
use Rattle.server_ports.specs.declared.shut.Shut.{Shut}
use Rattle.server_ports.specs.declared.shut.Shut.TheVariants as shut
use Rattle.server_ports.specs.declared.side_end.SideEnd.{SideEnd}

-- the operator cut the link
abbrev pub is_cut : Shut → Bool
is_cut shut.Cut = true
is_cut other = false

-- why a link ended by this program: the first cause, where none was there before and a side had not ended it
abbrev pub shut_after : Bool → Option Shut → Option Shut → Option Shut
shut_after true None s = s
shut_after live before s = before

-- what an error of a read or a write says of the connection
abbrev pub broken_by : ErrorKind → Broken
broken_by kind.BrokenPipe = broken.Closed
broken_by kind.ConnectionReset = broken.Reset
broken_by kind.ConnectionAborted = broken.Reset
broken_by kind.TimedOut = broken.TimedOut
broken_by kind.HostUnreachable = broken.TimedOut
broken_by kind.NetworkUnreachable = broken.TimedOut
broken_by _ = broken.Otherwise

-- what a failed read or write says, where the system said this of its connection
abbrev pub said_if_broken : End → Option Broken → LinkEnd
said_if_broken e (Some broken.Closed) = link_end.Side end.PeerEnded
said_if_broken e (Some broken.Reset) = link_end.Reset
said_if_broken e (Some broken.TimedOut) = link_end.TimedOut
said_if_broken e other = link_end.Side e

-- what the end of one side says. A link that isn't up any more for the centre was cut by the operator: nobody else ends a link there
-- while its sides go on.
abbrev pub said : End → Option Broken → LinkEnd
said end.ReadFault b = said_if_broken end.ReadFault b
said end.WriteFault b = said_if_broken end.WriteFault b
said end.Superseded b = link_end.Cut
said e b = link_end.Side e

-- the same, of the side
abbrev pub said_of : SideEnd → LinkEnd
said_of side = said side.end side.broken

-- the system said something of the connection that tells why
abbrev pub is_told : Option Broken → Bool
is_told None = false
is_told (Some broken.Otherwise) = false
is_told (Some other) = true

-- a side that ended so knows why the link ended: by what the BSC did or sent, or since the centre refused it; and not since the link
-- had ended already
abbrev pub knows : End → Option Broken → Bool
knows end.GateShut b = false
knows end.Superseded b = false
knows end.ReadFault b = is_told b
knows e b = true

-- the same, of the side
abbrev pub knows_why : SideEnd → Bool
knows_why side = knows side.end side.broken

-- why this program ended it
abbrev pub shut_end : Shut → LinkEnd
shut_end shut.Replaced = link_end.Replaced
shut_end shut.Cut = link_end.Cut
shut_end (shut.Unanswered seconds) = link_end.Unanswered seconds
shut_end (shut.ResetUnanswered seconds) = link_end.ResetUnanswered seconds
shut_end (shut.Silent seconds) = link_end.Silent seconds
shut_end shut.Unnamed = link_end.Unnamed
shut_end shut.NotReset = link_end.NotReset

-- what the first side to end says; but where that is a failed write, and the read side knows why, what that one says
abbrev pub sides_end : SideEnd → Option SideEnd → LinkEnd
sides_end read None = said_of read
sides_end read (Some written) = if is_write_fault written.end && knows_why read then said_of read else said_of written

-- what ended a link: this program, where it did, or one of its sides
abbrev pub cause_of : Option Shut → SideEnd → Option SideEnd → LinkEnd
cause_of (Some s) read written = shut_end s
cause_of None read written = sides_end read written
