-- Whether a line is held: whether something holds a version of it.
use Rattle.std.specs.Prelude.{Bool}
use Rattle.std.specs.List.{list_any}
use Rattle.std.specs.Option.{is_some}
use Rattle.mirror.specs.declared.line.Line.{Line}

-- a version of the line has a hold
abbrev pub is_held_line : Line → Bool
is_held_line line = list_any (λ k. is_some k.hold) line.states
