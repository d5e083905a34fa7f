-- What contracts see of a start, and what it makes of a file.
use Rattle.std.specs.Prelude.{◌≡◌, ℕ, Bool, true, false, List, [], Option, Some, if◌then◌else◌}
use Rattle.centre_events.specs.declared.refusal.Refusal.{Refusal}
use Rattle.centre_events.specs.declared.refusal.Refusal.TheVariants as refusal
use Rattle.centre_past.specs.Legal.{Known}
use Rattle.journal_file.specs.Loads.{BreaksOff, Loads}
use Rattle.journal_file.specs.declared.heading.Heading.{Heading}
use Rattle.journal_file.specs.declared.load_fault.LoadFault.{LoadFault}
use Rattle.journal_file.specs.declared.loaded.Loaded.{Loaded}
use Rattle.journal_file.specs.declared.take_line.NotTaken.{NotTaken}
use Rattle.journal_file.specs.declared.take_line.NotTaken.TheVariants as fault
use Rattle.journal_laws.specs.Starts.{IsReplayOf, IsStart}

-- the lines that were taken, and the centre of the office
pub record EnteringState : Type 0 where
  pub taken : List (List ℕ)
  pub centre : Known

-- all lines of the file were taken but the first and the comments, and the office's centre is what they make of one without entries
pub record Starts (heading : Heading) (given left : Option (List ℕ)) (old new : EnteringState) (loaded : Loaded) : Type 0 where
  pub loads : Loads heading given left (Some old.taken) (Some new.taken) loaded
  pub made : IsStart new.taken new.centre

-- a fault ended that, which tells the number of a line that isn't taken: the lines before it were taken, and the centre is what these
-- make
pub record BreaksOffStart (heading : Heading) (given left : Option (List ℕ)) (old new : EnteringState) (fault : LoadFault) : Type 0 where
  pub stops : BreaksOff heading given left (Some old.taken) (Some new.taken) fault
  pub made : IsStart new.taken new.centre

-- what a start makes of a file, where it begins with no line, is what `replay` makes of the lines that were taken
abbrev pub FileIsReplayed : Type 0
FileIsReplayed =
    (heading : Heading) (given left : Option (List ℕ)) (old new : EnteringState) (loaded : Loaded) → old.taken ≡ [] → Starts heading given left old new loaded
    → IsReplayOf new.taken new.centre

-- whether the refusal of an event is a fault of its line: it isn't where memory ran out, now or before, or where the desk isn't as the
-- office knows it
abbrev pub is_of_line : Refusal → Bool
is_of_line refusal.Memory = false
is_of_line refusal.Stale = false
is_of_line (refusal.WrongDesk position) = false
is_of_line other = true

-- what is said of the line
abbrev pub fault_of : Refusal → NotTaken
fault_of r = if is_of_line r then fault.BadLine else fault.Memory
