-- What is read of one line, in words of its orders and of the board.
use Rattle.std.specs.Prelude.{Bool, false, ℕ, List, [], None}
use Rattle.std.specs.Option.{is_some}
use Rattle.coverage_board.specs.Parts.{area_part, total_part}
use Rattle.coverage_board.specs.Standings.{Stand}
use Rattle.coverage_board.specs.declared.numbers.Numbers.{Numbers}
use Rattle.kept_tables.specs.declared.line_facts.LineFacts.{LineFacts}
use Rattle.mirror.specs.Line.{blank_line, state_of}
use Rattle.mirror.specs.Seen.{Seen}
use Rattle.order_maker.specs.Actions.{deeds}
use Rattle.order_maker.specs.declared.deed.Deed.{Deed}

-- the line of a warning that isn't in the book, in a cell that is down or not, and registered at the BSC or not
abbrev pub no_facts : Bool → Bool → LineFacts
no_facts down here = record { line = blank_line; message_id = 0; versions = []; wanted = None; down = down; areas = []; here = here; active = false }

-- what its orders depend on
abbrev pub seen_of : LineFacts → Seen
seen_of f = record {
  presence = λ s. (state_of f.line s).presence;
  is_held = λ s. is_some (state_of f.line s).hold;
  message_id = f.message_id;
  versions = f.versions;
  wanted = f.wanted;
  down = f.down;
}

-- what the board counts of it
abbrev pub stand_of : LineFacts → Stand
stand_of f = record { seen = seen_of f; counts = λ s. (state_of f.line s).count; areas = f.areas; here = f.here; active = f.active }

-- what is to be ordered on it
abbrev pub deeds_of : LineFacts → List Deed
deeds_of f = deeds (seen_of f)

-- what it adds to the numbers of its warning
abbrev pub total_of_line : LineFacts → Numbers
total_of_line f = total_part (stand_of f)

-- what it adds to the numbers of its warning in the area of that name
abbrev pub area_of_line : List ℕ → LineFacts → Numbers
area_of_line a f = area_part a (stand_of f)
