-- What is kept of one line, a BSC, a cell and a warning: a state for each of the sixteen update numbers.
use Rattle.std.specs.Prelude.{ℕ, None, replicate}
use Rattle.std.specs.List.{slice_index_or, slice_set}
use Rattle.serials.specs.Serials.{update_of}
use Rattle.mirror.specs.declared.key_state.KeyState.{KeyState}
use Rattle.mirror.specs.declared.line.Line.{Line}
use Rattle.mirror.specs.declared.presence.Presence.TheVariants.{Absent}

-- a key as it begins: absent, held by nothing, never broadcast
abbrev pub blank : KeyState
blank = record { presence = Absent; hold = None; count = 0 }

-- every key of the line as it begins
abbrev pub blank_line : Line
blank_line = record { states = replicate 16 blank }

-- what is kept of the version of that serial number, by its update number
abbrev pub state_of : Line → ℕ → KeyState
state_of line s = slice_index_or line.states (update_of s) blank

-- the line with that state for the version of that serial number, the others as they are
abbrev pub with_state : Line → ℕ → KeyState → Line
with_state line s k = record { states = slice_set line.states (update_of s) k }
